-- What a turn of the loop that reads does, over plain lists. Assumes nothing.
use Prim.Native.Nat.{ℕ, suc, ◌+◌, ◌-◌, ◌*◌, ◌^◌, ◌≤◌, ◌<◌}
use native.Mathlib.Omega.{arith}
use native.Mathlib.Numerals.{add-one}
use mathlib.Core.Bool.{Bool, true, false, cond, not, ◌&&◌, and-false}
use mathlib.Core.Path.{◌≡◌, refl, sym}
use mathlib.Core.List.{List, [], ◌∷◌}
use borrow.Author.Tests.{lt-ltb, le-ltb, ltb-false, leb-true, lt-leb}
use lib.Dec.{eqb, leb, ltb}
use lib.ListN.{length, drop, get_or, drop_of_length-le}
use lib.Seq.{drop-cons}
use Rattle.rules.specs.Line.{every}
use Rattle.rules.proofs.Tests.{both_true}
use Rattle.decimal.specs.declared.Reading.{Reading}
use Rattle.decimal.specs.Decimal.{digit, shortest, value_from, number_of}
use Rattle.decimal_read.specs.Method.{digits_from}

abbrev pub none : Reading
none = record { valid = false; value = 0 }

-- more digits make no smaller number
pub value_grows : (n : ℕ) (w : List ℕ) → n ≤ value_from n w
unfolding value_from
value_grows n [] = omega arith
value_grows n (b ∷ w) =
    let h : n * 10 + (b - 48) ≤ value_from (n * 10 + (b - 48)) w = value_grows (n * 10 + (b - 48)) w in
    omega arith

module _ (n b : ℕ) (w : List ℕ) where
  pub no_digit : digit b ≡ false → digits_from n (b ∷ w) ≡ none
  unfolding digits_from
  no_digit e = rw e

  pub one_digit : digit b ≡ true → digits_from n (b ∷ w) ≡ digits_from (n * 10 + (b - 48)) w
  unfolding digits_from value_from
  one_digit e = rw e

  pub too_large : 2 ^ 64 ≤ n * 10 + (b - 48) → digits_from n (b ∷ w) ≡ none
  unfolding digits_from value_from
  too_large h =
      let g : n * 10 + (b - 48) ≤ value_from (n * 10 + (b - 48)) w = value_grows (n * 10 + (b - 48)) w in
      rw (le-ltb (value_from (n * 10 + (b - 48)) w) (2 ^ 64) (omega arith), and-false)

pub all_read : (n : ℕ) → n < 2 ^ 64 → digits_from n [] ≡ record { valid = true; value = n }
unfolding digits_from value_from
all_read n h = rw (lt-ltb n (2 ^ 64) h)

-- a turn of the loop at index i, with v read so far
module _ (word : List ℕ) (i v : ℕ) (h : i < length word) where
  pub turn_none : digit (get_or word i 0) ≡ false → none ≡ digits_from v (drop i word)
  turn_none e = rw (drop-cons word i 0 h) (sym (no_digit v (get_or word i 0) (drop (suc i) word) e))

  pub turn_large : 2 ^ 64 ≤ v * 10 + (get_or word i 0 - 48) → none ≡ digits_from v (drop i word)
  turn_large e = rw (drop-cons word i 0 h) (sym (too_large v (get_or word i 0) (drop (suc i) word) e))

  pub turn_digit : digit (get_or word i 0) ≡ true → digits_from (v * 10 + (get_or word i 0 - 48)) (drop (i + 1) word) ≡ digits_from v (drop i word)
  turn_digit e = rw (add-one, drop-cons word i 0 h) (sym (one_digit v (get_or word i 0) (drop (suc i) word) e))

pub turn_end : (word : List ℕ) (i v : ℕ) → length word ≤ i → v < 2 ^ 64 → record { valid = true; value = v } ≡ digits_from v (drop i word)
turn_end word i v h f = rw (drop_of_length-le word h) (sym (all_read v f))

pub digit_low : (b : ℕ) → digit b ≡ true → 48 ≤ b
digit_low b e = leb-true 48 b (both_true (leb 48 b) (leb b 57) e).0

pub shortest_none : (w : List ℕ) → length w ≡ 0 → false ≡ shortest w
unfolding shortest
shortest_none [] h = refl
shortest_none (b ∷ w) h = absurd (omega arith)

pub shortest_one : (w : List ℕ) → length w ≡ 1 → true ≡ shortest w
unfolding shortest
shortest_one [] h = absurd (omega arith)
shortest_one (b ∷ []) h = refl
shortest_one (b ∷ (d ∷ w)) h = absurd (omega arith)

pub shortest_more : (w : List ℕ) → (length w ≡ 0 → ⊥) → (length w ≡ 1 → ⊥) → not (eqb (get_or w 0 0) 48) ≡ shortest w
unfolding shortest
shortest_more [] n₀ n₁ = absurd (n₀ refl)
shortest_more (b ∷ []) n₀ n₁ = absurd (n₁ refl)
shortest_more (b ∷ (d ∷ w)) n₀ n₁ = refl

-- digits without needless zeros, of a number up to `most`
pub number_law : (w : List ℕ) (most : ℕ) (s : Bool) (r : Reading) → most < 2 ^ 64 → s ≡ shortest w → r ≡ digits_from 0 w
    → cond (s && r.valid && leb r.value most) (record { valid = true; value = r.value }) none ≡ number_of w most
unfolding digits_from number_of
number_law w most s r h es er =
    rw (es, er) (go (shortest w) (every digit w) (ltb (value_from 0 w) (2 ^ 64)) refl)
  where
    go : (s e b : Bool) → b ≡ ltb (value_from 0 w) (2 ^ 64)
        → cond (s && (cond (e && b) (record { valid = true; value = value_from 0 w }) none).valid && leb
        (cond (e && b) (record { valid = true; value = value_from 0 w }) none).value most)
        (record { valid = true; value = (cond (e && b) (record { valid = true; value = value_from 0 w }) none).value }) none
        ≡ cond (s && e && leb (value_from 0 w) most) (record { valid = true; value = value_from 0 w }) none
    go true true true eb = refl
    go true true false eb = rw (lt-leb (value_from 0 w) most (omega (arith, ltb-false (value_from 0 w) (2 ^ 64) (sym eb))))
    go true false true eb = refl
    go true false false eb = refl
    go false true true eb = refl
    go false true false eb = refl
    go false false true eb = refl
    go false false false eb = refl
