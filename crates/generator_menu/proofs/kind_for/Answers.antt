-- What the check leaves of `kind_for`.
use mathlib.Core.Path.{◌≡◌, sym, ◌∙◌}
use native.Mathlib.Omega.{arith}
use lib.ListN.{length}
use Rattle.generator_menu.proofs.Loops.{index_step, index_stop, index_done}
use borrow.Author.Rules.{rules}
use Rattle.generator_menu.proofs.kind_for.Goals as goal

pub returns-then-left-x : goal.returns-then-left-x
returns-then-left-x c =
    let h = c in
    let a = h.args in
    let len : length a.w ≡ 8 = search rules in
    sym (h.loop-i.invariant.1 ∙ index_stop h.loop-i.left a.w h.loop-i.i (omega arith) (omega (arith, c.wider-x.ensures.0)))

pub loop-i-preserved : goal.loop-i-preserved
loop-i-preserved c =
    let h = c in
    let a = h.args in
    let len : length a.w ≡ 8 = search rules in (
      omega arith,
      h.loop-i.invariant.1 ∙ rw c.wider-x.ensures.0
          (index_step h.loop-i.left a.w h.loop-i.i (omega arith) (omega (arith, c.wider-x.ensures.0))),
    )

pub returns : goal.returns
returns c =
    let h = c in
    let a = h.args in
    let len : length a.w ≡ 8 = search rules in
    omega (arith, h.loop-i.invariant.1, index_done h.loop-i.left a.w h.loop-i.i (omega arith))
