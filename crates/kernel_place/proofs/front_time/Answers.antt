-- What the check leaves of `front_time`.
use Rattle.std.proofs.Common.{◌≡◌, sym, ◌∙◌, arith}
use Rattle.kernel_line.proofs.Laws.{lead_step, lead_stop, lead_done}
use Rattle.kernel_line.specs.Tables.{later}
use Rattle.kernel_place.proofs.front_time.Goals as goal

pub returns-then-is_later : goal.returns-then-is_later
returns-then-is_later c =
    let a = c.args in
    sym (c.loop-i.invariant ∙ lead_stop (later a.until.now a.v) a.line.now c.loop-i.i (omega arith) (sym c.is_later.ensures ∙ c.if-is_later.true))

pub loop-i-preserved : goal.loop-i-preserved
loop-i-preserved c =
    let a = c.args in
    c.loop-i.invariant ∙ lead_step (later a.until.now a.v) a.line.now c.loop-i.i (omega arith) (sym c.is_later.ensures ∙ c.if-is_later.false)

pub returns : goal.returns
returns c =
    let a = c.args in
    let end : c.loop-i.i ≡ 32 = omega arith in
    sym (c.loop-i.invariant ∙ lead_done (later a.until.now a.v) a.line.now c.loop-i.i (omega arith) ∙ end)
