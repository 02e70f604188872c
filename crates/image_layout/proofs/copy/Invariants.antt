-- `copy` meets its contract: the first i bytes of the table are those of the part. Assumes nothing.
use Prim.Native.Nat.{◌-◌, ◌≤◌}
use mathlib.Core.Path.{◌≡◌}
use lib.ListN.{length, take}
use Rattle.image_form.specs.Layout.{part}
use Rattle.image_layout.proofs.copy.Given as goal

abbrev pub invariant-loop-i : goal.invariant-loop-i
invariant-loop-i l = (l.i ≤ l.n) × (length l.table ≡ l.n) × (take l.i l.table ≡ take l.i (part l.n l.at l.s))

abbrev pub decreases-loop-i : goal.decreases-loop-i
decreases-loop-i l = l.n - l.i
