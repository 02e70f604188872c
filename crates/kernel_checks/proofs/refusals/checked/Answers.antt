-- `checked` meets its contract: what is not formed is refused by 4; behind that, each chain is the row of its kind. Assumes nothing.
use mathlib.Core.Path.{sym, ◌∙◌}
use mathlib.Core.Bool.{cond, not, ◌&&◌, not-not}
use lib.Dec.{eqb}
use Rattle.rules.specs.Line.{at}
use Rattle.rules.specs.declared.Kind.TheVariants.{NoKind, Creating, Declaring, Starting, Delaying, Waking, Advancing, Opening, Entering, Ending}
use Rattle.kernel_checks.specs.Shown.{to_rules, shown}
use Rattle.kernel_ready.proofs.Laws.{front_idle}
use Rattle.rules.specs.Numbers.{code_of, number_of}
use Rattle.std.proofs.lemmas.Result.{err_from_is_err_and}
use Rattle.kernel_checks.proofs.Rows.{not_formed, behind, none_waits, some_number, first_of_six, none_of_six}
use Rattle.kernel_checks.proofs.refusals.checked.Goals as goal

pub returns-then-not-formed : goal.returns-then-not-formed
returns-then-not-formed c = let a = c.args in not_formed a.k _ (to_rules a.c) (sym c.formed.ensures ∙ c.if-not-formed.true)

pub returns-in-NoKind : goal.returns-in-NoKind
returns-in-NoKind c = behind _ NoKind _ _ c.in-NoKind.is (sym c.formed.ensures ∙ c.if-not-formed.false)

pub returns-in-Creating : goal.returns-in-Creating
returns-in-Creating c =
    rw (c.creating.ensures, c.of_task.ensures) (behind _ Creating _ _ c.in-Creating.is (sym c.formed.ensures ∙ c.if-not-formed.false))

pub returns-in-Declaring : goal.returns-in-Declaring
returns-in-Declaring c =
    rw (c.declaring.ensures, c.of_object.ensures) (behind _ Declaring _ _ c.in-Declaring.is (sym c.formed.ensures ∙ c.if-not-formed.false))

pub returns-in-Starting : goal.returns-in-Starting
returns-in-Starting c =
    rw c.starting.ensures (behind _ Starting _ _ c.in-Starting.is (sym c.formed.ensures ∙ c.if-not-formed.false))

pub returns-in-Delaying : goal.returns-in-Delaying
returns-in-Delaying c =
    rw (c.delaying.ensures, c.of_task-in-Delaying.ensures, c.runner-r.ensures)
    (rw (front_idle c.args.ready.now) at (behind _ Delaying (shown c.args.base.now c.args.ready.now c.args.held.now c.args.way.now c.args.ceiling c.args.waiter c.args.clock c.args.started) (to_rules c.args.c) c.in-Delaying.is (sym c.formed.ensures ∙ c.if-not-formed.false)))

pub returns-in-Waking : goal.returns-in-Waking
returns-in-Waking c =
    rw c.waking.ensures (behind _ Waking _ _ c.in-Waking.is (sym c.formed.ensures ∙ c.if-not-formed.false))

pub returns-in-Advancing : goal.returns-in-Advancing
returns-in-Advancing c =
    rw c.advancing.ensures (behind _ Advancing _ _ c.in-Advancing.is (sym c.formed.ensures ∙ c.if-not-formed.false))

pub returns-in-Opening : goal.returns-in-Opening
returns-in-Opening c =
    let a = c.args in
    rw (c.taking.ensures, c.runner-r.ensures)
    (rw (front_idle a.ready.now, not-not (eqb (at a.ceiling a.c.a) 0)) at (behind _ Opening (shown c.args.base.now c.args.ready.now c.args.held.now c.args.way.now c.args.ceiling c.args.waiter c.args.clock c.args.started) (to_rules c.args.c) c.in-Opening.is (sym c.formed.ensures ∙ c.if-not-formed.false)))

pub returns-in_err-taking-in-Entering : goal.returns-in_err-taking-in-Entering
returns-in_err-taking-in-Entering c =
    let a = c.args in
    let e = c.in_err-taking-in-Entering in
    let p = err_from_is_err_and c.from_residual.result c.from_residual.ensures.1 in
    let row = rw (front_idle a.ready.now, none_waits a.waiter a.c.a, not-not (eqb (at a.ceiling a.c.a) 0))
    at (behind _ Entering (shown a.base.now a.ready.now a.held.now a.way.now a.ceiling a.waiter a.clock a.started) (to_rules a.c) c.in-Entering.is (sym c.formed.ensures ∙ c.if-not-formed.false)) in
    rw (p.1, p.2) (rw c.runner-r.ensures at (first_of_six _ _ _ _ _ _ (number_of e.field-0.0) (cond (eqb a.c.b 0 && not (eqb (at a.waiter a.c.a) 0)) 12 0) (some_number e.field-0.0) e.ensures) ∙ row)

pub returns-in_ok-taking-in-Entering : goal.returns-in_ok-taking-in-Entering
returns-in_ok-taking-in-Entering c =
    let a = c.args in
    let row = rw (front_idle a.ready.now, none_waits a.waiter a.c.a, not-not (eqb (at a.ceiling a.c.a) 0))
    at (behind _ Entering (shown a.base.now a.ready.now a.held.now a.way.now a.ceiling a.waiter a.clock a.started) (to_rules a.c) c.in-Entering.is (sym c.formed.ensures ∙ c.if-not-formed.false)) in
    rw c.runner-r.ensures at (none_of_six _ _ _ _ _ _ (code_of c.full.result) _ c.in_ok-taking-in-Entering.ensures c.full.ensures) ∙ row

pub returns-in-Ending : goal.returns-in-Ending
returns-in-Ending c =
    let a = c.args in
    rw (c.giving.ensures, c.runner-r.ensures)
    (rw (front_idle a.ready.now, not-not (eqb (at a.ceiling a.c.a) 0)) at (behind _ (Ending _) (shown c.args.base.now c.args.ready.now c.args.held.now c.args.way.now c.args.ceiling c.args.waiter c.args.clock c.args.started) (to_rules c.args.c) c.in-Ending.is (sym c.formed.ensures ∙ c.if-not-formed.false)))
