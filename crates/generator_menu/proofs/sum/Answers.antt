-- What the check leaves of `sum`.
use mathlib.Core.Path.{◌≡◌}
use native.Mathlib.Omega.{arith}
use lib.ListN.{length}
use Rattle.generator_menu.proofs.Loops.{sum_step, sum_done}
use borrow.Author.Rules.{rules}
use Rattle.generator_menu.proofs.sum.Goals as goal

pub loop-i-preserved : goal.loop-i-preserved
loop-i-preserved c =
    let h = c in
    let a = h.args in
    let len : length a.w ≡ 8 = search rules in
    (omega arith, omega arith, omega (arith, sum_step a.w h.loop-i.i (omega arith), c.wider-s.ensures.0))

pub returns : goal.returns
returns c =
    let h = c in
    let a = h.args in
    let len : length a.w ≡ 8 = search rules in
    omega (arith, sum_done a.w h.loop-i.i (omega arith))
