-- What the check leaves of `are_small`.
use mathlib.Core.Path.{◌≡◌, sym, ◌∙◌}
use native.Mathlib.Omega.{arith}
use lib.Dec.{leb}
use lib.ListN.{length}
use Rattle.kernel_line.proofs.Laws.{every_step, every_done}
use borrow.Author.Rules.{rules}
use Rattle.generator_checks.proofs.are_small.Goals as goal

pub loop-i-preserved : goal.loop-i-preserved
loop-i-preserved c =
    let h = c in
    let a = h.args in
    let len : length a.w ≡ 8 = search rules in
    (omega arith, h.loop-i.invariant.1 ∙ every_step (λ x. leb x 100) a.w h.loop-i.i h.loop-i.small (omega arith))

pub returns : goal.returns
returns c =
    let h = c in
    let a = h.args in
    let len : length a.w ≡ 8 = search rules in
    sym (h.loop-i.invariant.1 ∙ every_done (λ x. leb x 100) a.w h.loop-i.i h.loop-i.small (omega arith))
