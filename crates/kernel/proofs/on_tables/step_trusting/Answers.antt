-- `step_trusting` is stepped_of on the tables: a refused command ends as Ends says, and an accepted one is carried out. Assumes nothing.
use Prim.Native.Nat.{zero}
use mathlib.Core.Path.{◌≡◌, refl, ap, ◌∙◌}
use Rattle.rules.specs.Machine.{Command}
use Rattle.rules.specs.Kinds.{kind}
use Rattle.rules.specs.Numbers.{number_of}
use Rattle.kernel_checks.specs.Shown.{refusal_as}
use Rattle.kernel_checks.proofs.Rows.{some_number}
use Rattle.kernel.specs.declared.Kernel.{Kernel}
use Rattle.kernel.specs.declared.Stepped.{Stepped}
use Rattle.kernel.specs.Public.{to_rules}
use Rattle.kernel.specs.Lent.{tables}
use Rattle.kernel.proofs.Ends.{shown_of, refused_end, accepted_end}
use Rattle.kernel.proofs.on_tables.step_trusting.Goals as goal

-- (k: the lent tables; asked: the command; found: the number that the checks found is the rules'.)
pub returns-in-Err : goal.returns-in-Err
returns-in-Err c =
    let a = c.args in
    let k : Kernel =
    tables a.base.now a.ready.now a.delayed.now a.held.now a.way.now a.until.now a.ceiling.now a.waiter.now
    a.clock.now a.started.now in
    let asked : Command = to_rules a.c in
    let r = c.in-Err.refusal in
    let found : number_of r ≡ refusal_as (kind asked) (shown_of k) asked = rw (← c.kind-kind.ensures) c.in-Err.ensures in
    let e = refused_end k asked (number_of r) found (some_number r) in
    (ap (λ (s : Stepped). s.next) e, rw (c.refused.ensures, c.number.ensures, c.running.ensures) (ap (λ (s : Stepped). s.answer) e))

pub returns-in-Ok : goal.returns-in-Ok
returns-in-Ok c =
    let a = c.args in
    let k : Kernel =
    tables a.base.now a.ready.now a.delayed.now a.held.now a.way.now a.until.now a.ceiling.now a.waiter.now
    a.clock.now a.started.now in
    let asked : Command = to_rules a.c in
    let found : zero ≡ refusal_as (kind asked) (shown_of k) asked = rw (← c.kind-kind.ensures) c.in-Ok.ensures in
    let e = accepted_end k asked 0 found refl in
    let g = rw c.kind-kind.ensures at c.carry-released.ensures in
    (g.0 ∙ ap (λ (s : Stepped). s.next) e, rw (c.accepted.ensures, c.running-in-Ok.ensures) (g.1 ∙ ap (λ (s : Stepped). s.answer) e))
