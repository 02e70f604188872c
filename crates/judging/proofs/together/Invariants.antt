-- `together` meets its contract: the first i bytes are those of what is held and then comes. Assumes nothing.
use Prim.Native.Nat.{◌-◌, ◌≤◌}
use mathlib.Core.Path.{◌≡◌}
use mathlib.Core.List.{◌++◌}
use lib.ListN.{length, take}
use Rattle.kernel.specs.View.{pad}
use Rattle.judging.proofs.together.Given as goal

abbrev pub invariant-loop-i : goal.invariant-loop-i
invariant-loop-i l = (l.i ≤ 16) × (length l.out ≡ 16) × (take l.i l.out ≡ take l.i (pad 16 (take l.n l.held ++ l.piece))) × (l.n ≤ 15)

abbrev pub decreases-loop-i : goal.decreases-loop-i
decreases-loop-i l = 16 - l.i
