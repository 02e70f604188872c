-- What the check leaves of `tasks_fit`.
use mathlib.Core.Path.{◌≡◌, refl}
use native.Mathlib.Omega.{arith}
use Rattle.kernel_cells.proofs.Loops.{gather}
use Rattle.kernel_cells.specs.Cells.{tasks_fit, task_fits}
use Rattle.rules.specs.Line.{at, all_below}
use Rattle.kernel_cells.proofs.tasks_fit.Goals as goal

pub loop-t-init : goal.loop-t-init
unfolding all_below
loop-t-init c = refl

pub loop-t-preserved : goal.loop-t-preserved
loop-t-preserved c =
    let a = c.args in
    rw c.task_fits-fit.ensures
    (gather (λ t. task_fits (at a.base.now t) (at a.place.now t) (at a.held.now t) (at a.way.now t)) c.loop-t.t c.loop-t.fit c.loop-t.invariant)

pub returns : goal.returns
unfolding tasks_fit
returns c =
    let a = c.args in
    let end : c.loop-t.t ≡ 32 = omega arith in
    rw end at c.loop-t.invariant
