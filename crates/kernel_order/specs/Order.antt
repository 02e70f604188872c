-- What is tested of a whole line in its table: its free places stand at its end, its tasks in order.
use Rattle.std.specs.Prelude.{ℕ, Bool, true, cond, not, ◌&&◌, ◌||◌, List, [], ◌∷◌, eqb, leb}
use Rattle.rules.specs.Line.{at, neighbours}
use Rattle.kernel_line.specs.Tables.{level}

-- Behind a free place the next is free, and so all are.
abbrev pub ended : List ℕ → Bool
ended l = neighbours (λ x y. not (eqb x 0) || eqb y 0) l

-- Tasks up to the first free place, and each one's key in order with the key before it, the first one's with `last`.
unfoldable pub ordered : (ℕ → ℕ → Bool) → (ℕ → ℕ) → ℕ → List ℕ → Bool
ordered follows key last [] = true
ordered follows key last (x ∷ l) = cond (eqb x 0) true
    (not (leb 32 x) && follows last (key x) && ordered follows key (key x) l)

abbrev pub falls : List ℕ → List ℕ → List ℕ → ℕ → List ℕ → Bool
falls base ceiling held = ordered (λ a b. leb b a) (level base ceiling held)

abbrev pub rises : List ℕ → ℕ → List ℕ → Bool
rises until = ordered leb (at until)
