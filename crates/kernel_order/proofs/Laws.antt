-- Laws of the tests of a whole line: what one turn of a loop over its table does to each, by the entry that the turn looks at. Assumes nothing.
use Prim.Native.Nat.{ℕ, suc, ◌+◌, ◌≤◌, ◌<◌}
use native.Mathlib.Numerals.{add-one}
use native.Mathlib.Omega.{arith}
use mathlib.Core.Path.{◌≡◌, sym}
use mathlib.Core.Bool.{Bool, true, false, ◌&&◌, and-true, and_assoc}
use mathlib.Core.List.{List, ◌∷◌}
use lib.ListN.{length, drop, drop_of_length-le}
use lib.Seq.{drop-cons}
use borrow.Author.Tests.{eq-eqb, ne_eqb, le-leb, lt-leb}
use Rattle.rules.specs.Line.{at, neighbours}
use Rattle.kernel_order.specs.Order.{ordered}

-- a loop that gathers a test of each two neighbours
module _ (f : ℕ → ℕ → Bool) (l : List ℕ) (i : ℕ) (b : Bool) where
  pub pairs_step : i + 1 < length l → b && neighbours f (drop i l) ≡ b && f (at l i) (at l (i + 1)) && neighbours f (drop (i + 1) l)
  pairs_step h =
      let near : i < length l = omega arith in
      let next : suc i < length l = omega arith in
      rw (add-one, drop-cons l i 0 near, drop-cons l (suc i) 0 next)
      (sym (and_assoc b (f (at l i) (at l (suc i))) (neighbours f (at l (suc i) ∷ drop (suc (suc i)) l))))

  pub pairs_done : i + 1 ≡ length l → b && neighbours f (drop i l) ≡ b
  pairs_done h =
      let near : i < length l = omega arith in
      let past : length l ≤ suc i = omega arith in
      rw (drop-cons l i 0 near, drop_of_length-le l past) (and-true b)

-- a loop that tests an order
module _ (follows : ℕ → ℕ → Bool) (key : ℕ → ℕ) (last : ℕ) (l : List ℕ) (i : ℕ) where
  pub ordered_free : i < length l → at l i ≡ 0 → ordered follows key last (drop i l) ≡ true
  unfolding ordered
  ordered_free h e = rw (drop-cons l i 0 h, eq-eqb (at l i) 0 e)

  pub ordered_out : i < length l → (at l i ≡ 0 → ⊥) → 32 ≤ at l i → ordered follows key last (drop i l) ≡ false
  unfolding ordered
  ordered_out h n k = rw (drop-cons l i 0 h, ne_eqb (at l i) 0 n, le-leb 32 (at l i) k)

  module _ (h : i < length l) (n : at l i ≡ 0 → ⊥) (k : at l i < 32) where
    pub ordered_stop : follows last (key (at l i)) ≡ false → ordered follows key last (drop i l) ≡ false
    unfolding ordered
    ordered_stop e = rw (drop-cons l i 0 h, ne_eqb (at l i) 0 n, lt-leb 32 (at l i) k, e)

    pub ordered_step : follows last (key (at l i)) ≡ true → ordered follows key last (drop i l) ≡ ordered follows key (key (at l i)) (drop (i + 1) l)
    unfolding ordered
    ordered_step e = rw (add-one, drop-cons l i 0 h, ne_eqb (at l i) 0 n, lt-leb 32 (at l i) k, e)

  pub ordered_done : length l ≤ i → ordered follows key last (drop i l) ≡ true
  unfolding ordered
  ordered_done h = rw (drop_of_length-le l h)
