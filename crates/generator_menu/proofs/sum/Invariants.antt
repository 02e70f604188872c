-- `generator_menu::sum` meets its contract. The invariant: the sum is s and that of the rest; s is below 2^32 for each weight passed. Assumes nothing.
use Prim.Native.Nat.{◌+◌, ◌-◌, ◌*◌, ◌≤◌}
use mathlib.Core.Path.{◌≡◌}
use lib.ListN.{drop}
use Rattle.generator_menu.specs.Tables.{sum_of}
use Rattle.generator_menu.proofs.sum.Given as goal

abbrev pub invariant-loop-i : goal.invariant-loop-i
invariant-loop-i l = (l.i ≤ 8) × (l.s ≤ l.i * 4294967296) × (sum_of l.w ≡ l.s + sum_of (drop l.i l.w))

abbrev pub decreases-loop-i : goal.decreases-loop-i
decreases-loop-i l = 8 - l.i
