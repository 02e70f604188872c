-- `objects_fit` meets its contract. The invariant: the objects passed fit. Assumes nothing.
use mathlib.Core.Path.{◌≡◌}
use Rattle.kernel_cells.specs.Cells.{object_fits}
use Rattle.rules.specs.Line.{at, all_below}
use Rattle.kernel_objects.proofs.objects_fit.Given as goal

abbrev pub invariant-loop-o : goal.invariant-loop-o
invariant-loop-o l = l.fit ≡ all_below l.o (λ o. object_fits o (at l.ceiling o) (at l.waiter o) (at l.base (at l.waiter o)))
