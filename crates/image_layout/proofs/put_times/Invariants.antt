-- `put_times` meets its contract: the bytes of the first i times stand behind byte 256. Assumes nothing.
use Prim.Native.Nat.{◌+◌, ◌*◌, ◌-◌, ◌≤◌}
use mathlib.Core.Path.{◌≡◌}
use mathlib.Core.List.{◌++◌}
use lib.ListN.{length, take}
use Rattle.image_form.specs.Layout.{bytes_of}
use Rattle.image_layout.proofs.put_times.Given as goal

abbrev pub invariant-loop-i : goal.invariant-loop-i
invariant-loop-i l = (l.i ≤ 32) × (length l.s ≡ 512) × (take (256 + 8 * l.i) l.s ≡ take 256 l.initial.s ++ bytes_of (take l.i l.times))

abbrev pub decreases-loop-i : goal.decreases-loop-i
decreases-loop-i l = 32 - l.i
