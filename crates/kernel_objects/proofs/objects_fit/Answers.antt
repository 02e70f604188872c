-- What the check leaves of `objects_fit`.
use mathlib.Core.Path.{◌≡◌, refl}
use native.Mathlib.Omega.{arith}
use Rattle.kernel_cells.proofs.Loops.{gather}
use Rattle.kernel_cells.specs.Cells.{objects_fit, object_fits}
use Rattle.rules.specs.Line.{at, all_below}
use Rattle.kernel_objects.proofs.objects_fit.Goals as goal

pub loop-o-init : goal.loop-o-init
unfolding all_below
loop-o-init c = refl

pub loop-o-preserved : goal.loop-o-preserved
loop-o-preserved c =
    let a = c.args in
    rw (c.object_fits-fit.ensures, c.of_task.ensures, c.from-i.ensures) (gather (λ o. object_fits o (at a.ceiling o) (at a.waiter o) (at a.base.now (at a.waiter o)))
    c.loop-o.o c.loop-o.fit c.loop-o.invariant)

pub returns : goal.returns
unfolding objects_fit
returns c =
    let a = c.args in
    let end : c.loop-o.o ≡ 8 = omega arith in
    rw end at c.loop-o.invariant
