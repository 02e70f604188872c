-- What the check leaves of `lead_task`.
use Rattle.std.proofs.Common.{◌≡◌, sym, ◌∙◌, eqb, length, arith, rules}
use Rattle.kernel_line.proofs.Laws.{lead_step, lead_stop, lead_done}
use borrow.Author.Tests.{eq-eqb, ne_eqb}
use Rattle.kernel_line.proofs.lead_task.Goals as goal

pub returns-then-t-x : goal.returns-then-t-x
returns-then-t-x c =
    let a = c.args in
    let len : length a.line ≡ 32 = search rules in
    sym (c.loop-n.invariant ∙ lead_stop (eqb a.t.0) a.line c.loop-n.n (omega arith) (eq-eqb _ _ c.if-t-x.true))

pub loop-n-preserved : goal.loop-n-preserved
loop-n-preserved c =
    let a = c.args in
    let len : length a.line ≡ 32 = search rules in
    c.loop-n.invariant ∙ lead_step (eqb a.t.0) a.line c.loop-n.n (omega arith) (ne_eqb _ _ c.if-t-x.false)

pub returns : goal.returns
returns c =
    let a = c.args in
    let len : length a.line ≡ 32 = search rules in
    let end : c.loop-n.n ≡ 32 = omega arith in
    sym (c.loop-n.invariant ∙ lead_done (eqb a.t.0) a.line c.loop-n.n (omega arith) ∙ end)
