-- `tasks_fit` meets its contract. The invariant: the tasks passed fit. Assumes nothing.
use mathlib.Core.Path.{◌≡◌}
use Rattle.kernel_cells.specs.Cells.{task_fits}
use Rattle.rules.specs.Line.{at, all_below}
use Rattle.kernel_cells.proofs.tasks_fit.Given as goal

abbrev pub invariant-loop-t : goal.invariant-loop-t
invariant-loop-t l = l.fit ≡ all_below l.t (λ t. task_fits (at l.base t) (at l.place t) (at l.held t) (at l.way t))
