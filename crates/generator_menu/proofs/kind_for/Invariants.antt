-- `generator_menu::kind_for` meets its contract. The invariant: the index is i and that of the rest, for what is left of d. Assumes nothing.
use Prim.Native.Nat.{◌+◌, ◌-◌, ◌≤◌}
use mathlib.Core.Path.{◌≡◌}
use lib.ListN.{drop}
use Rattle.generator_menu.specs.Tables.{index_of}
use Rattle.generator_menu.proofs.kind_for.Given as goal

abbrev pub invariant-loop-i : goal.invariant-loop-i
invariant-loop-i l = (l.i ≤ 8) × (index_of l.d l.w ≡ l.i + index_of l.left (drop l.i l.w))

abbrev pub decreases-loop-i : goal.decreases-loop-i
decreases-loop-i l = 8 - l.i
