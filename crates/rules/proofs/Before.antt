-- "All ahead of t in a line have P": what is kept when the front leaves, and when another is placed. The promise on releases goes by it.
-- Assumes nothing.
use Prim.Native.Nat.{ℕ, ◌≤◌}
use native.Mathlib.Omega.{arith}
use mathlib.Core.Path.{◌≡◌, refl}
use mathlib.Core.Logic.{◌≢◌}
use mathlib.Core.Bool.{Bool, true, false, cond}
use mathlib.Core.List.{List, ◌∷◌}
use Rattle.rules.specs.Line.{count, front, behind_front, place}
use Rattle.rules.proofs.Words.{All}
use Rattle.rules.proofs.Lists.{one_self}

-- Everyone ahead of t in the line has P.
pub data Before (P : ℕ → Type 0) (t : ℕ) : List ℕ → Type 0 where
  here : {l : List ℕ} → Before P t (t ∷ l)
  there : {x : ℕ} {l : List ℕ} → P x → Before P t l → Before P t (x ∷ l)

pub before_map : {P Q : ℕ → Type 0} {t : ℕ} {l : List ℕ} → ((a : ℕ) → P a → Q a) → Before P t l → Before Q t l
before_map f here = here
before_map f (there p k) = there (f _ p) (before_map f k)

pub before_all : {P Q : ℕ → Type 0} {t : ℕ} {l : List ℕ} → All Q l → Before P t l → Before (λ a. P a × Q a) t l
before_all h here = here
before_all h (there p k) = there (p, h.0) (before_all h.1 k)

pub before_front : {P : ℕ → Type 0} {t : ℕ} {l : List ℕ} → front 0 l ≢ t → Before P t l → P (front 0 l) × Before P t (behind_front l)
before_front n here = absurd (n refl)
before_front n (there p k) = (p, k)

-- one with P may be placed anywhere
pub before_good : {P : ℕ → Type 0} {t : ℕ} {l : List ℕ} (stop : ℕ → Bool) (x : ℕ) → P x → Before P t l → Before P t (place stop x l)
before_good {P} {t} stop x p (here {l = l}) =
    elim (stop t) as (λ b. Before P t (cond b (x ∷ t ∷ l) (t ∷ place stop x l))) [ true ↦ there p here | false ↦ here ]
before_good {P} {t} stop x p (there {x = y} {l = l} q k) =
    elim (stop y) as (λ b. Before P t (cond b (x ∷ y ∷ l) (y ∷ place stop x l))) [ true ↦ there p (there q k) | false ↦ there q (before_good stop x p k) ]

-- another goes behind t, if nothing up to t stops it
pub before_bad : {P : ℕ → Type 0} {t : ℕ} {l : List ℕ} (stop : ℕ → Bool) (x : ℕ) → ((a : ℕ) → P a → stop a ≡ false) → stop t ≡ false → Before P t l
    → Before P t (place stop x l)
before_bad stop x f e here = rw e here
before_bad stop x f e (there {x = y} q k) = rw (f y q) (there q (before_bad stop x f e k))

-- t stands in the line
pub before_counts : {P : ℕ → Type 0} {t : ℕ} {l : List ℕ} → Before P t l → 1 ≤ count t l
before_counts {t = t} here = omega (arith, one_self t)
before_counts (there p k) = omega (arith, before_counts k)
