-- `times_fit` meets its contract. The invariant: the times passed fit. Assumes nothing.
use mathlib.Core.Path.{◌≡◌}
use Rattle.rules.specs.Line.{at, all_below}
use mathlib.Core.Bool.{◌||◌}
use lib.Dec.{eqb}
use Rattle.kernel_cells.proofs.times_fit.Given as goal

abbrev pub invariant-loop-t : goal.invariant-loop-t
invariant-loop-t l = l.fit ≡ all_below l.t (λ t. eqb (at l.until t) 0 || eqb (at l.place t) 2)
