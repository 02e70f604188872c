-- `get_times` meets its contract: the first i times are those that the bytes from 256 on hold. Assumes nothing.
use Prim.Native.Nat.{◌-◌, ◌≤◌}
use mathlib.Core.Path.{◌≡◌}
use lib.ListN.{length, take, drop}
use Rattle.image_form.specs.Layout.{numbers_of}
use Rattle.image_layout.proofs.get_times.Given as goal

abbrev pub invariant-loop-i : goal.invariant-loop-i
invariant-loop-i l = (l.i ≤ 32) × (length l.r ≡ 32) × (take l.i l.r ≡ take l.i (numbers_of 32 (drop 256 l.s)))

abbrev pub decreases-loop-i : goal.decreases-loop-i
decreases-loop-i l = 32 - l.i
