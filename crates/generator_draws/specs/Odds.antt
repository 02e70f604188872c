-- How often a choice is made, as a count of numbers: for the statement that the odds are even.
use Rattle.std.specs.Prelude.{ℕ, zero, suc, ◌+◌, ◌*◌, ◌%◌, ◌^◌, Bool, cond, List, [], ◌∷◌, eqb, ltb}
use Rattle.generator_draws.specs.Xorshift.{draw}
use Rattle.generator_draws.specs.Below.{value, limit}

-- the sum of f over the numbers below k; and of the numbers below k, how many pass
unfoldable pub sum_below : ℕ → (ℕ → ℕ) → ℕ
sum_below zero f = 0
sum_below (suc k) f = sum_below k f + f k

abbrev pub how_many : ℕ → (ℕ → Bool) → ℕ
how_many k f = sum_below k (λ v. cond (f v) 1 0)

-- of the lists of k numbers below top, how many pass
unfoldable pub how_many_lists : ℕ → ℕ → (List ℕ → Bool) → ℕ
how_many_lists top zero f = cond (f []) 1 0
how_many_lists top (suc k) f = sum_below top (λ v. how_many_lists top k (λ l. f (v ∷ l)))

-- The choice below n by the values v of its draws, one after another: the first below the limit gives v mod n, the last
-- always does.
abbrev pub chosen_from : ℕ → ℕ → List ℕ → ℕ
chosen_from lim n [] = 0
chosen_from lim n (v ∷ []) = v % n
chosen_from lim n (v ∷ w ∷ l) = cond (ltb v lim) (v % n) (chosen_from lim n (w ∷ l))

-- the values of the k draws from a seed
abbrev pub values : ℕ → ℕ → List ℕ
values zero seed = []
values (suc k) seed = value seed ∷ values k (draw seed)

-- A draw has 4294967295 values. Of the lists of eight of them, how many give the choice c below n.
abbrev pub draw_values : ℕ
draw_values = 4294967295

abbrev pub ways_to : ℕ → ℕ → ℕ
ways_to n c = how_many_lists draw_values 8 (λ l. eqb (chosen_from (limit n) n l) c)

-- What each choice has in common with every other: q of the values of a draw give it at once, and r of them are drawn
-- again.
abbrev pub common : ℕ → ℕ → ℕ → ℕ → ℕ
common top q r zero = q
common top q r (suc k) = q * top ^ suc k + r * common top q r k
