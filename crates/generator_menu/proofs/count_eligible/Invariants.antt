-- `generator_menu::count_eligible` meets its contract. The invariant: the count is n and that of the objects from o upward. Assumes nothing.
use Prim.Native.Nat.{◌+◌, ◌-◌, ◌≤◌}
use mathlib.Core.Path.{◌≡◌}
use lib.ListN.{length}
use Rattle.generator_draws.specs.Menu.{sift, objects}
use Rattle.generator_menu.specs.Tables.{eligible_in, upward}
use Rattle.generator_menu.proofs.count_eligible.Given as goal

abbrev pub invariant-loop-o : goal.invariant-loop-o
invariant-loop-o l = (1 ≤ l.o) × (l.o ≤ 8) × (l.n ≤ l.o) × (length (sift (eligible_in l.ceiling l.held l.base) objects) ≡ l.n + length (sift (eligible_in l.ceiling l.held l.base) (upward (8 - l.o) l.o)))

abbrev pub decreases-loop-o : goal.decreases-loop-o
decreases-loop-o l = 8 - l.o
