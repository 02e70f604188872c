-- What the check leaves of `is_falling`.
use Prim.Native.Nat.{ℕ, ◌+◌}
use mathlib.Core.Path.{◌≡◌, sym, ap, ◌∙◌}
use native.Mathlib.Omega.{arith}
use lib.ListN.{get_or, drop}
use Rattle.kernel_order.proofs.Laws.{ordered_free, ordered_out, ordered_stop, ordered_step, ordered_done}
use Rattle.kernel_line.specs.Tables.{level}
use Rattle.kernel_order.specs.Order.{falls}
use lib.Dec.{leb}
use borrow.Author.Tests.{lt-leb, le-leb}
use Rattle.kernel_order.proofs.is_falling.Goals as goal

pub returns-then-x-eq0 : goal.returns-then-x-eq0
returns-then-x-eq0 c =
    let a = c.args in
    sym (c.loop-x.invariant ∙ ordered_free (λ a b. leb b a) (level a.base.now a.ceiling a.held.now) c.loop-x.last a.line.now c.loop-x.x-index
    (omega arith) c.if-x-eq0.true)

pub returns-then-x-ge32 : goal.returns-then-x-ge32
returns-then-x-ge32 c =
    let a = c.args in
    sym (c.loop-x.invariant ∙ ordered_out (λ a b. leb b a) (level a.base.now a.ceiling a.held.now) c.loop-x.last a.line.now c.loop-x.x-index
    (omega arith) c.if-x-eq0.false c.if-x-ge32.true)

pub returns-then-last-level : goal.returns-then-last-level
returns-then-last-level c =
    let a = c.args in
    let same : c.level-level.result ≡ level a.base.now a.ceiling a.held.now (get_or a.line.now c.loop-x.x-index 0) = c.level-level.ensures in
    sym (c.loop-x.invariant ∙ ordered_stop (λ a b. leb b a) (level a.base.now a.ceiling a.held.now) c.loop-x.last a.line.now c.loop-x.x-index
    (omega arith) c.if-x-eq0.false c.if-x-ge32.false
    (ap (λ (v : ℕ). leb v c.loop-x.last) (sym same) ∙ lt-leb _ _ c.if-last-level.true))

pub loop-x-preserved : goal.loop-x-preserved
loop-x-preserved c =
    let a = c.args in
    let same : c.level-level.result ≡ level a.base.now a.ceiling a.held.now (get_or a.line.now c.loop-x.x-index 0) = c.level-level.ensures in
    c.loop-x.invariant ∙ ordered_step (λ a b. leb b a) (level a.base.now a.ceiling a.held.now) c.loop-x.last a.line.now c.loop-x.x-index (omega arith)
    c.if-x-eq0.false c.if-x-ge32.false
    (ap (λ (v : ℕ). leb v c.loop-x.last) (sym same) ∙ le-leb _ _ c.if-last-level.false)
    ∙ ap (λ (v : ℕ). falls a.base.now a.ceiling a.held.now v (drop (c.loop-x.x-index + 1) a.line.now)) (sym same)

pub returns : goal.returns
returns c =
    let a = c.args in
    sym (c.loop-x.invariant ∙ ordered_done (λ a b. leb b a) (level a.base.now a.ceiling a.held.now) c.loop-x.last a.line.now c.loop-x.x-index
    (omega arith))
