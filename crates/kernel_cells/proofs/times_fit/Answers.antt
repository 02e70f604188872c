-- What the check leaves of `times_fit`.
use mathlib.Core.Path.{◌≡◌, refl}
use native.Mathlib.Omega.{arith}
use Rattle.kernel_cells.proofs.Loops.{gather}
use Rattle.kernel_cells.specs.Cells.{times_fit}
use Rattle.rules.specs.Line.{at, all_below}
use mathlib.Core.Bool.{◌||◌}
use lib.Dec.{eqb}
use Rattle.kernel_cells.proofs.times_fit.Goals as goal

pub loop-t-init : goal.loop-t-init
unfolding all_below
loop-t-init c = refl

pub loop-t-preserved : goal.loop-t-preserved
loop-t-preserved c =
    let a = c.args in
    gather (λ t. eqb (at a.until.now t) 0 || eqb (at a.place.now t) 2) c.loop-t.t c.loop-t.fit c.loop-t.invariant

pub returns : goal.returns
unfolding times_fit
returns c =
    let a = c.args in
    let end : c.loop-t.t ≡ 32 = omega arith in
    rw end at c.loop-t.invariant
