-- Lines and tables: the lists that a machine is made of, and what is asked of them.
use Rattle.std.specs.Prelude.{ℕ, zero, suc, ◌+◌, Bool, true, false, cond, ◌&&◌, ◌||◌, List, [], ◌∷◌, ◌++◌, eqb, leb, ltb, get_or}

module _ {A : Type 0} where
  -- x, placed before the first entry at which the test stops: at the end, where it stops at none
  abbrev pub place : (A → Bool) → A → List A → List A
  place stop x [] = x ∷ []
  place stop x (y ∷ l) = cond (stop y) (x ∷ y ∷ l) (y ∷ place stop x l)

  -- the first entry, or d where there is none
  abbrev pub front : A → List A → A
  front d [] = d
  front d (x ∷ l) = x

  -- the first n entries, or all where there are fewer; the line behind them
  abbrev pub first_few : ℕ → List A → List A
  first_few zero l = []
  first_few (suc n) [] = []
  first_few (suc n) (x ∷ l) = x ∷ first_few n l

  abbrev pub behind_few : ℕ → List A → List A
  behind_few zero l = l
  behind_few (suc n) [] = []
  behind_few (suc n) (x ∷ l) = behind_few n l

  -- the first as a line of its own; the line behind it
  abbrev pub first_alone : List A → List A
  first_alone l = first_few 1 l

  abbrev pub behind_front : List A → List A
  behind_front l = behind_few 1 l

  abbrev pub empty : List A → Bool
  empty [] = true
  empty (x ∷ l) = false

  -- each entry passes the test
  abbrev pub every : (A → Bool) → List A → Bool
  every f [] = true
  every f (x ∷ l) = f x && every f l

  -- each entry passes it with the one behind it
  abbrev pub neighbours : (A → A → Bool) → List A → Bool
  neighbours f [] = true
  neighbours f (x ∷ []) = true
  neighbours f (x ∷ (y ∷ l)) = f x y && neighbours f (y ∷ l)

  -- lists, one behind another
  abbrev pub joined : List (List A) → List A
  joined [] = []
  joined (l ∷ ls) = l ++ joined ls

-- each of the tests is passed
abbrev pub all_of : List Bool → Bool
all_of [] = true
all_of (b ∷ l) = b && all_of l

-- the cell i of a table, 0 past its end
abbrev pub at : List ℕ → ℕ → ℕ
at l i = get_or l i 0

abbrev pub one_if : Bool → ℕ
one_if true = 1
one_if false = 0

-- how often t stands in the line
abbrev pub count : ℕ → List ℕ → ℕ
count t [] = 0
count t (x ∷ l) = one_if (eqb t x) + count t l

-- each number below n passes the test
unfoldable pub all_below : ℕ → (ℕ → Bool) → Bool
all_below zero f = true
all_below (suc n) f = f n && all_below n f

-- n is lo..hi; n is one of those listed
abbrev pub within : ℕ → ℕ → ℕ → Bool
within lo hi n = leb lo n && leb n hi

abbrev pub among : List ℕ → ℕ → Bool
among [] n = false
among (x ∷ l) n = eqb n x || among l n

-- "Placed at the tail of p" means after every task with active at least p; in an ordered line, that is before the
-- first below p.
abbrev pub at_tail : (ℕ → ℕ) → ℕ → ℕ → List ℕ → List ℕ
at_tail active p t l = place (λ y. ltb (active y) p) t l

-- "At the head of p" means after every task with active above p, that is, of at least p + 1.
abbrev pub at_head : (ℕ → ℕ) → ℕ → ℕ → List ℕ → List ℕ
at_head active p t l = at_tail active (suc p) t l

-- The delay line, of entries (time, task), is ordered by time, equal times by order of entry. (proofs/Placing has all
-- three as theorems.)
abbrev pub by_time : ℕ × ℕ → List (ℕ × ℕ) → List (ℕ × ℕ)
by_time e l = place (λ f. ltb e.0 f.0) e l
