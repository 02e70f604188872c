-- What the check leaves of `front_level`.
use Rattle.std.proofs.Common.{◌≡◌, sym, ◌∙◌, arith}
use Rattle.kernel_line.proofs.Laws.{lead_step, lead_stop, lead_done}
use Rattle.kernel_ready.specs.Ready.{lower}
use Rattle.kernel_ready.proofs.front_level.Goals as goal

pub returns-then-is_lower : goal.returns-then-is_lower
returns-then-is_lower c =
    let a = c.args in
    sym (c.loop-i.invariant ∙ lead_stop (lower a.base.now a.ceiling a.held.now a.p) a.ready.now c.loop-i.i (omega arith)
    (sym c.is_lower.ensures ∙ c.if-is_lower.true))

pub loop-i-preserved : goal.loop-i-preserved
loop-i-preserved c =
    let a = c.args in
    c.loop-i.invariant ∙ lead_step (lower a.base.now a.ceiling a.held.now a.p) a.ready.now c.loop-i.i (omega arith)
    (sym c.is_lower.ensures ∙ c.if-is_lower.false)

pub returns : goal.returns
returns c =
    let a = c.args in
    let end : c.loop-i.i ≡ 32 = omega arith in
    sym (c.loop-i.invariant ∙ lead_done (lower a.base.now a.ceiling a.held.now a.p) a.ready.now c.loop-i.i (omega arith) ∙ end)
