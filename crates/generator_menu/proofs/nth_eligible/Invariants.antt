-- `generator_menu::nth_eligible` meets its contract. The invariant: the object is number `left` of those from o upward. Assumes nothing.
use Prim.Native.Nat.{◌-◌, ◌≤◌}
use mathlib.Core.Path.{◌≡◌}
use lib.ListN.{get_or}
use Rattle.generator_draws.specs.Menu.{sift, objects}
use Rattle.generator_menu.specs.Tables.{eligible_in, upward}
use Rattle.generator_menu.proofs.nth_eligible.Given as goal

abbrev pub invariant-loop-o : goal.invariant-loop-o
invariant-loop-o l = (1 ≤ l.o) × (l.o ≤ 8) × (get_or (sift (eligible_in l.ceiling l.held l.base) objects) l.n 0 ≡ get_or (sift (eligible_in l.ceiling l.held l.base) (upward (8 - l.o) l.o)) l.left 0)

abbrev pub decreases-loop-o : goal.decreases-loop-o
decreases-loop-o l = 8 - l.o
