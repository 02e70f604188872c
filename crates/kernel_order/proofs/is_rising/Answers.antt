-- What the check leaves of `is_rising`.
use mathlib.Core.Path.{sym, ◌∙◌}
use native.Mathlib.Omega.{arith}
use Rattle.kernel_order.proofs.Laws.{ordered_free, ordered_out, ordered_stop, ordered_step, ordered_done}
use lib.Dec.{leb}
use Rattle.rules.specs.Line.{at}
use borrow.Author.Tests.{lt-leb, le-leb}
use Rattle.kernel_order.proofs.is_rising.Goals as goal

pub returns-then-x-eq0 : goal.returns-then-x-eq0
returns-then-x-eq0 c =
    let a = c.args in
    sym (c.loop-x.invariant ∙ ordered_free leb (at a.until.now) c.loop-x.last a.line.now c.loop-x.x-index (omega arith) c.if-x-eq0.true)

pub returns-then-x-ge32 : goal.returns-then-x-ge32
returns-then-x-ge32 c =
    let a = c.args in
    sym (c.loop-x.invariant ∙ ordered_out leb (at a.until.now) c.loop-x.last a.line.now c.loop-x.x-index (omega arith) c.if-x-eq0.false c.if-x-ge32.true)

pub returns-then-time-last : goal.returns-then-time-last
returns-then-time-last c =
    let a = c.args in
    sym (c.loop-x.invariant ∙ ordered_stop leb (at a.until.now) c.loop-x.last a.line.now c.loop-x.x-index (omega arith) c.if-x-eq0.false
    c.if-x-ge32.false (rw (← c.from.ensures) (lt-leb _ _ c.if-time-last.true)))

pub loop-x-preserved : goal.loop-x-preserved
loop-x-preserved c =
    let a = c.args in
    rw c.from.ensures (c.loop-x.invariant ∙ ordered_step leb (at a.until.now) c.loop-x.last a.line.now c.loop-x.x-index (omega arith) c.if-x-eq0.false
    c.if-x-ge32.false (rw (← c.from.ensures) (le-leb _ _ c.if-time-last.false)))

pub returns : goal.returns
returns c =
    let a = c.args in
    sym (c.loop-x.invariant ∙ ordered_done leb (at a.until.now) c.loop-x.last a.line.now c.loop-x.x-index (omega arith))
