-- `decimal_print::put_digits` meets its contract. The invariant: the buffer, with the digits that are left stored, is the buffer that is wanted; in the end
-- three are left. Assumes nothing.
use Prim.Native.Nat.{◌+◌, ◌^◌, ◌≤◌, ◌<◌}
use mathlib.Core.Path.{◌≡◌}
use lib.ListN.{length}
use lib.Seq.{sets}
use Rattle.decimal_print.specs.Method.{last_digits}
use Rattle.decimal_print.proofs.put_digits.Given as goal

abbrev pub invariant-loop-left : goal.invariant-loop-left
invariant-loop-left l = (3 ≤ l.left) × (l.left ≤ l.k) × (l.place + l.left ≡ l.at + l.k) × (l.rest < 10 ^ l.left) × (length l.out ≡ length l.initial.out)
    × (sets l.out l.place (last_digits l.left l.rest) ≡ sets l.initial.out l.at (last_digits l.k l.n))

abbrev pub decreases-loop-left : goal.decreases-loop-left
decreases-loop-left l = l.left
