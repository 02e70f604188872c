-- `decimal_read::digits` meets its contract. The invariant: what is left of the word, behind the number read so far, reads as the whole word does. Assumes
-- nothing.
use Prim.Native.Nat.{◌≤◌, ◌<◌, ◌-◌, ◌^◌}
use mathlib.Core.Path.{◌≡◌}
use lib.ListN.{length, drop}
use Rattle.decimal_read.specs.Method.{digits_from}
use Rattle.decimal_read.proofs.digits.Given as goal

abbrev pub invariant-loop-i : goal.invariant-loop-i
invariant-loop-i l = (l.i ≤ length l.word) × (l.value < 2 ^ 64) × (digits_from l.value (drop l.i l.word) ≡ digits_from 0 l.word)

abbrev pub decreases-loop-i : goal.decreases-loop-i
decreases-loop-i l = length l.word - l.i
