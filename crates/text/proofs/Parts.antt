-- Parts of a line: how large a number is that stands there; a line that is all read; a line too long. Assumes nothing.
use Prim.Native.Nat.{ℕ, zero, suc, ◌≤◌, ◌<◌}
use native.Mathlib.Omega.{arith}
use mathlib.Core.Bool.{Bool, true, false, cond}
use mathlib.Core.Path.{◌≡◌, refl, sym, ◌∙◌}
use mathlib.Core.List.{List, [], ◌∷◌}
use borrow.Author.Tests.{le-leb, lt-leb}
use lib.Dec.{eqb, leb, leb-suc-suc}
use lib.ListN.{length, drop}
use Rattle.rules.specs.Line.{empty}
use Rattle.decimal.specs.Decimal.{number_of}
use Rattle.text.specs.Words.{word, behind}
use Rattle.text.specs.Commands.{Part, decimal_next, operand, command_of, no_command}
use Rattle.decimal.proofs.BothWays.{number_bound}

pub decimal_bound : (most : ℕ) (l : List ℕ) → (decimal_next most l).value ≤ most
unfolding decimal_next
decimal_bound most [] = omega arith
decimal_bound most (b ∷ l) = go (eqb b 32)
  where
    go : (t : Bool) → (cond {A = Part} t (record { valid = (number_of (word l) most).valid; value = (number_of (word l) most).value; left = behind l })
        (record { valid = false; value = 0; left = b ∷ l })).value ≤ most
    go true = number_bound (word l) most
    go false = omega arith

pub operand_bound : (used : Bool) (most : ℕ) (l : List ℕ) → (operand used most l).value ≤ most
unfolding operand
operand_bound true most l = decimal_bound most l
operand_bound false most l = omega arith

pub all_read : (l : List ℕ) (n : ℕ) → empty (drop n l) ≡ leb (length l) n
all_read [] n = go n
  where
    go : (n : ℕ) → empty {A = ℕ} (drop n []) ≡ leb 0 n
    go zero = refl
    go (suc n) = sym (le-leb 0 (suc n) (omega arith))
all_read (b ∷ l) zero = sym (lt-leb (suc (length l)) 0 (omega arith))
all_read (b ∷ l) (suc n) = all_read l n ∙ sym (leb-suc-suc (length l) n)

pub too_long : (line : List ℕ) → 64 < length line → no_command ≡ command_of line
unfolding command_of
too_long line h = rw (lt-leb (length line) 64 h)
