-- What one turn of each of the generator's loops does, by the entry that the turn looks at. Assumes nothing.
use Prim.Native.Nat.{ℕ, zero, suc, ◌+◌, ◌-◌, ◌≤◌, ◌<◌, ◌^◌}
use native.Mathlib.Numerals.{add-one}
use native.Mathlib.Omega.{arith}
use mathlib.Core.Path.{◌≡◌, refl, sym, ◌∙◌}
use mathlib.Core.Bool.{Bool, true, false, cond}
use mathlib.Core.List.{List, [], ◌∷◌}
use lib.Dec.{leb, ltb}
use lib.ListN.{length, get_or, drop, drop_of_length-le}
use lib.Seq.{drop-cons}
use borrow.Author.Tests.{leb-true, leb-false, lt-ltb, le-ltb}
use Rattle.rules.specs.Line.{at}
use Rattle.generator_draws.specs.Menu.{sift}
use Rattle.generator_menu.specs.Tables.{upward, sum_of, index_of}

-- clock + span fits, tested without a wrap
pub room : (clock span : ℕ) → clock < 2 ^ 64 → leb span (18446744073709551615 - clock) ≡ ltb (clock + span) (2 ^ 64)
room clock span h = go (leb span (18446744073709551615 - clock)) refl
  where
    go : (b : Bool) → leb span (18446744073709551615 - clock) ≡ b → b ≡ ltb (clock + span) (2 ^ 64)
    go true e = let w : span ≤ 18446744073709551615 - clock = leb-true _ _ e in sym (lt-ltb (clock + span) (2 ^ 64) (omega arith))
    go false e = let w : 18446744073709551615 - clock < span = leb-false _ _ e in sym (le-ltb (clock + span) (2 ^ 64) (omega arith))

-- the loops over the objects 1..7
module _ (f : ℕ → Bool) (o : ℕ) where
  turn : o < 8 → sift f (upward (8 - o) o) ≡ cond (f o) (o ∷ sift f (upward (8 - (o + 1)) (o + 1))) (sift f (upward (8 - (o + 1)) (o + 1)))
  unfolding upward
  turn h = let e : 8 - o ≡ suc (8 - suc o) = omega arith in rw (add-one, e)

  pub sift_yes : o < 8 → f o ≡ true → sift f (upward (8 - o) o) ≡ o ∷ sift f (upward (8 - (o + 1)) (o + 1))
  sift_yes h e = turn h ∙ rw e

  pub sift_no : o < 8 → f o ≡ false → sift f (upward (8 - o) o) ≡ sift f (upward (8 - (o + 1)) (o + 1))
  sift_no h e = turn h ∙ rw e

  pub sift_done : 8 ≤ o → sift f (upward (8 - o) o) ≡ []
  unfolding upward
  sift_done h = let e : 8 - o ≡ 0 = omega arith in rw e

-- the sum of the weights
module _ (l : List ℕ) (i : ℕ) where
  pub sum_step : i < length l → sum_of (drop i l) ≡ at l i + sum_of (drop (i + 1) l)
  unfolding sum_of
  sum_step h = rw (add-one, drop-cons l i 0 h)

  pub sum_done : length l ≤ i → sum_of (drop i l) ≡ 0
  unfolding sum_of
  sum_done h = rw (drop_of_length-le l h)

-- the choice by running sums
module _ (d : ℕ) (l : List ℕ) (i : ℕ) where
  pub index_step : i < length l → at l i ≤ d → i + index_of d (drop i l) ≡ (i + 1) + index_of (d - at l i) (drop (i + 1) l)
  unfolding index_of
  index_step h g = rw (drop-cons l i 0 h, le-ltb d (at l i) g, add-one) (omega arith)

  pub index_stop : i < length l → d < at l i → i + index_of d (drop i l) ≡ i
  unfolding index_of
  index_stop h g = rw (drop-cons l i 0 h, lt-ltb d (at l i) g) (omega arith)

  pub index_done : length l ≤ i → i + index_of d (drop i l) ≡ i
  unfolding index_of
  index_done h = rw (drop_of_length-le l h) (omega arith)

-- number n of a list, past its first
pub past_first : (x : ℕ) (l : List ℕ) (n : ℕ) → (n ≡ 0 → ⊥) → get_or (x ∷ l) n 0 ≡ get_or l (n - 1) 0
past_first x l zero h = absurd (h refl)
past_first x l (suc n) h = let e : suc n - 1 ≡ n = omega arith in rw e
