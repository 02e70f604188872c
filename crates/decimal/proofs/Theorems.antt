-- What is promised of decimals, each statement in plain words first. The functions' contracts are equations with the definitions named here, so
-- each statement holds of what the functions answer. Assumes nothing.
use Prim.Native.Nat.{ℕ, ◌^◌, ◌≤◌, ◌<◌}
use native.Mathlib.Omega.{arith}
use mathlib.Core.Bool.{true}
use mathlib.Core.Path.{◌≡◌, ap, sym, ◌∙◌}
use mathlib.Core.List.{List}
use Rattle.decimal.specs.declared.Reading.{Reading}
use Rattle.decimal.specs.Decimal.{number_of, decimal}
use Rattle.decimal.proofs.BothWays.{reads_back, prints_back}

-- Reading back a printed decimal gives the number. (Rules out a printer that drops, swaps or adds a digit, or pads with zeros.)
pub printed_reads : (n most : ℕ) → n ≤ most → n < 2 ^ 64 → number_of (decimal n) most ≡ record { valid = true; value = n }
printed_reads n most h g = reads_back n most h (omega arith)

-- Printing a read one gives the text. (Rules out a reader that takes "007", "+7" or "" for a number: their print is another text.)
pub read_prints : (w : List ℕ) (most : ℕ) → most < 2 ^ 64 → (number_of w most).valid ≡ true → decimal (number_of w most).value ≡ w
read_prints w most h e = prints_back w most (omega arith) e

-- No two numbers are printed as one text. (That a reader answers at all, and within its bound, is its contract.)
pub one_number : (w : List ℕ) (m n : ℕ) → m < 2 ^ 64 → n < 2 ^ 64 → decimal m ≡ w → decimal n ≡ w → m ≡ n
one_number w m n hm hn em en =
    let a = printed_reads m 18446744073709551615 (omega arith) hm in
    let b = printed_reads n 18446744073709551615 (omega arith) hn in
    ap (λ (r : Reading). r.value) (sym a ∙ ap (λ (l : List ℕ). number_of l 18446744073709551615) (em ∙ sym en) ∙ b)
