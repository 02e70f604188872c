-- No line is longer than the room that is asked for it, and no list: a decimal has at most 20 digits. Assumes nothing.
use Prim.Native.Nat.{ℕ, ◌≤◌}
use native.Mathlib.Omega.{arith}
use mathlib.Core.Bool.{Bool, true, false}
use mathlib.Core.List.{List, [], ◌∷◌}
use lib.ListN.{length, length-append}
use Rattle.decimal.proofs.BothWays.{decimal_most}
use Rattle.salvage_text.specs.Lines.{stretch_text, list_text, yes_no, last_text, stretch_room, last_room, list_room}

pub stretch_short : (first size : ℕ) → length (stretch_text first size) ≤ stretch_room
unfolding stretch_text
stretch_short first size = simp length-append (omega (arith, decimal_most first, decimal_most size))

pub list_short : (cells : List ℕ) → length (list_text cells) ≤ list_room cells
unfolding list_text
list_short [] = omega arith
list_short (first ∷ []) = omega arith
list_short (first ∷ (size ∷ more)) = simp length-append (omega (arith, stretch_short first size, list_short more))

pub yes_no_short : (headed : Bool) → length (yes_no headed) ≤ 4
unfolding yes_no
yes_no_short true = omega arith
yes_no_short false = omega arith

pub last_short : (records dropped : ℕ) (headed : Bool) → length (last_text records dropped headed) ≤ last_room
unfolding last_text
last_short records dropped headed = simp length-append (omega (arith, decimal_most records, decimal_most dropped, yes_no_short headed))
