-- Which records are kept. A byte is kept exactly if a kept record has it; a kept record stands on the tape; and a record that stands on the tape is lost
-- exactly if a kept one begins before it and reaches into it, so that one right behind a kept one is kept. By induction on what is left of the tape. Assumes
-- nothing.
use Prim.Native.Nat.{ℕ, zero, suc, ◌+◌, ◌≤◌, ◌<◌}
use native.Mathlib.Omega.{arith}
use mathlib.Core.Path.{◌≡◌, refl, sym, ◌∙◌}
use mathlib.Core.Bool.{Bool, true, false, cond, true≢false}
use mathlib.Core.Logic.{◌⊎◌, inl, inr}
use mathlib.Core.List.{List, [], ◌∷◌}
use lib.Dec.{eqb-suc-zero}
use lib.ListN.{length, drop, get_or, length-drop}
use Rattle.salvage_marks.specs.Torn.{makes, marks}
use Rattle.salvage_marks.specs.Words.{stands, begins, kept_at, Has, byte_kept}
use Rattle.salvage_marks.proofs.Marks.{makes_long, makes_first}

-- the kept record that begins at an index of what is left has byte i
abbrev HasOn : Bool → ℕ → List ℕ → ℕ → ℕ → Type 0
HasOn f k l at i = (begins f k l at ≡ true) × (at ≤ i) × (i < at + 16)

-- ---- a kept byte belongs to a record

-- behind a byte at which a record begins, and behind one that is dropped
behind_kept : (f : Bool) (b : ℕ) (l : List ℕ) (i : ℕ) → makes f (b ∷ l) ≡ true → (i < 15) ⊎ ((at : ℕ) × HasOn false 15 l at i)
    → (at : ℕ) × HasOn f zero (b ∷ l) at (suc i)
unfolding begins
behind_kept f b l i e (inl o) = (0, (e, omega arith, omega arith))
behind_kept f b l i e (inr (at, (g, o, p))) = (suc at, (rw e g, omega arith, omega arith))

behind_dropped : (f : Bool) (b : ℕ) (l : List ℕ) (i : ℕ) → makes f (b ∷ l) ≡ false → (i < 0) ⊎ ((at : ℕ) × HasOn false zero l at i)
    → (at : ℕ) × HasOn f zero (b ∷ l) at (suc i)
unfolding begins
behind_dropped f b l i e (inl o) = absurd (omega arith)
behind_dropped f b l i e (inr (at, (g, o, p))) = (suc at, (rw e g, omega arith, omega arith))

kept_has : (f : Bool) (k : ℕ) (l : List ℕ) (i : ℕ) → get_or (marks f k l) i false ≡ true → (i < k) ⊎ ((at : ℕ) × HasOn f k l at i)
unfolding marks begins
kept_has f k [] i h = absurd (true≢false (sym h))
kept_has f (suc k) (b ∷ l) zero h = inl (omega arith)
kept_has f (suc k) (b ∷ l) (suc i) h = go (kept_has false k l i h)
  where
    go : (i < k) ⊎ ((at : ℕ) × HasOn false k l at i) → (suc i < suc k) ⊎ ((at : ℕ) × HasOn f (suc k) (b ∷ l) at (suc i))
    go (inl o) = inl (omega arith)
    go (inr (at, (g, o, p))) = inr (suc at, (g, omega arith, omega arith))
kept_has f zero (b ∷ l) zero h = go (makes f (b ∷ l)) refl
  where
    go : (t : Bool) → makes f (b ∷ l) ≡ t → (0 < 0) ⊎ ((at : ℕ) × HasOn f zero (b ∷ l) at 0)
    go true e = inr (0, (e, omega arith, omega arith))
    go false e = absurd (true≢false (sym (rw e at h)))
kept_has f zero (b ∷ l) (suc i) h = go (makes f (b ∷ l)) refl (λ x. kept_has false 15 l i x) (λ x. kept_has false zero l i x)
  where
    go : (t : Bool) → makes f (b ∷ l) ≡ t → (get_or (marks false 15 l) i false ≡ true → (i < 15) ⊎ ((at : ℕ) × HasOn false 15 l at i))
        → (get_or (marks false zero l) i false ≡ true → (i < 0) ⊎ ((at : ℕ) × HasOn false zero l at i))
        → (suc i < 0) ⊎ ((at : ℕ) × HasOn f zero (b ∷ l) at (suc i))
    go true e x y = inr (behind_kept f b l i e (x (rw e at h)))
    go false e x y = inr (behind_dropped f b l i e (y (rw e at h)))

-- ---- the bytes of a kept record are kept

rest_kept : (f : Bool) (k : ℕ) (l : List ℕ) (i : ℕ) → i < k → i < length l → get_or (marks f k l) i false ≡ true
unfolding marks
rest_kept f k [] i o p = absurd (omega arith)
rest_kept f zero (b ∷ l) i o p = absurd (omega arith)
rest_kept f (suc k) (b ∷ l) zero o p = refl
rest_kept f (suc k) (b ∷ l) (suc i) o p = rest_kept false k l i (omega arith) (omega arith)

has_kept : (f : Bool) (k : ℕ) (l : List ℕ) (at i : ℕ) → HasOn f k l at i → get_or (marks f k l) i false ≡ true
unfolding marks begins
has_kept f k [] at i (h, o, p) = absurd (true≢false (sym h))
has_kept f (suc k) (b ∷ l) zero i (h, o, p) = absurd (true≢false (sym h))
has_kept f (suc k) (b ∷ l) (suc at) zero (h, o, p) = absurd (omega arith)
has_kept f (suc k) (b ∷ l) (suc at) (suc i) (h, o, p) = has_kept false k l at i (h, omega arith, omega arith)
has_kept f zero (b ∷ l) zero zero (h, o, p) = rw h
has_kept f zero (b ∷ l) zero (suc i) (h, o, p) =
    let n : 16 ≤ length (b ∷ l) = makes_long f (b ∷ l) h in
    rw h (rest_kept false 15 l i (omega arith) (omega arith))
has_kept f zero (b ∷ l) (suc at) zero (h, o, p) = absurd (omega arith)
has_kept f zero (b ∷ l) (suc at) (suc i) (h, o, p) =
    go (makes f (b ∷ l)) h (λ x. has_kept false 15 l at i (x, omega arith, omega arith)) (λ x. has_kept false zero l at i (x, omega arith, omega arith))
  where
    go : (t : Bool) → cond {A = Bool} t (begins false 15 l at) (begins false zero l at) ≡ true
        → (begins false 15 l at ≡ true → get_or (marks false 15 l) i false ≡ true)
        → (begins false zero l at ≡ true → get_or (marks false zero l) i false ≡ true)
        → get_or (cond {A = List Bool} t (true ∷ marks false 15 l) (false ∷ marks false zero l)) (suc i) false ≡ true
    go true h x y = x h
    go false h x y = y h

-- ---- records that stand on the tape

-- the first byte of a command record is kept, by it or by another
first_kept : (f : Bool) (k : ℕ) (l : List ℕ) (at : ℕ) → makes false (drop at l) ≡ true → get_or (marks f k l) at false ≡ true
unfolding marks
first_kept f k [] at h = absurd (omega (arith, makes_long false (drop at []) h, length-drop {A = ℕ} at []))
first_kept f (suc k) (b ∷ l) zero h = refl
first_kept f (suc k) (b ∷ l) (suc at) h = first_kept false k l at h
first_kept f zero (b ∷ l) zero h = rw (makes_first f (b ∷ l) h)
first_kept f zero (b ∷ l) (suc at) h = go (makes f (b ∷ l)) (first_kept false 15 l at h) (first_kept false zero l at h)
  where
    go : (t : Bool) → get_or (marks false 15 l) at false ≡ true → get_or (marks false zero l) at false ≡ true
        → get_or (cond {A = List Bool} t (true ∷ marks false 15 l) (false ∷ marks false zero l)) (suc at) false ≡ true
    go true x y = x
    go false x y = y

-- no record begins in one that is kept
inside_none : (f : Bool) (k : ℕ) (l : List ℕ) (at : ℕ) → at < k → begins f k l at ≡ false
unfolding begins
inside_none f k [] at o = refl
inside_none f zero (b ∷ l) at o = absurd (omega arith)
inside_none f (suc k) (b ∷ l) zero o = refl
inside_none f (suc k) (b ∷ l) (suc at) o = inside_none false k l at (omega arith)

over_none : (f : Bool) (k : ℕ) (l : List ℕ) (at i : ℕ) → begins f k l at ≡ true → at < i → i < at + 16 → begins f k l i ≡ false
unfolding begins
over_none f k [] at i h o p = refl
over_none f (suc k) (b ∷ l) zero i h o p = absurd (true≢false (sym h))
over_none f (suc k) (b ∷ l) (suc at) zero h o p = absurd (omega arith)
over_none f (suc k) (b ∷ l) (suc at) (suc i) h o p = over_none false k l at i h (omega arith) (omega arith)
over_none f zero (b ∷ l) at zero h o p = absurd (omega arith)
over_none f zero (b ∷ l) zero (suc i) h o p = rw h (inside_none false 15 l i (omega arith))
over_none f zero (b ∷ l) (suc at) (suc i) h o p =
    go (makes f (b ∷ l)) h (λ x. over_none false 15 l at i x (omega arith) (omega arith)) (λ x. over_none false zero l at i x (omega arith) (omega arith))
  where
    go : (t : Bool) → cond {A = Bool} t (begins false 15 l at) (begins false zero l at) ≡ true → (begins false 15 l at ≡ true → begins false 15 l i ≡ false)
        → (begins false zero l at ≡ true → begins false zero l i ≡ false)
        → cond {A = Bool} t (begins false 15 l i) (begins false zero l i) ≡ false
    go true h x y = x h
    go false h x y = y h

later_stands : (k : ℕ) (l : List ℕ) (at : ℕ) → begins false k l at ≡ true → makes false (drop at l) ≡ true
unfolding begins
later_stands k [] at h = absurd (true≢false (sym h))
later_stands (suc k) (b ∷ l) zero h = absurd (true≢false (sym h))
later_stands (suc k) (b ∷ l) (suc at) h = later_stands k l at h
later_stands zero (b ∷ l) zero h = h
later_stands zero (b ∷ l) (suc at) h = go (makes false (b ∷ l)) h (λ x. later_stands 15 l at x) (λ x. later_stands zero l at x)
  where
    go : (t : Bool) → cond {A = Bool} t (begins false 15 l at) (begins false zero l at) ≡ true → (begins false 15 l at ≡ true → makes false (drop at l) ≡ true)
        → (begins false zero l at ≡ true → makes false (drop at l) ≡ true) → makes false (drop at l) ≡ true
    go true h x y = x h
    go false h x y = y h

-- ---- a tape

pub kept_of_record : (s : List ℕ) (i : ℕ) → byte_kept s i ≡ true → (at : ℕ) × Has s at i
kept_of_record s i h = go (kept_has true zero s i h)
  where
    go : (i < 0) ⊎ ((at : ℕ) × Has s at i) → (at : ℕ) × Has s at i
    go (inl o) = absurd (omega arith)
    go (inr x) = x

pub record_kept : (s : List ℕ) (i at : ℕ) → Has s at i → byte_kept s i ≡ true
record_kept s i at h = has_kept true zero s at i h

pub kept_stands : (s : List ℕ) (at : ℕ) → kept_at s at ≡ true → stands s at ≡ true
unfolding begins
kept_stands [] at h = absurd (true≢false (sym h))
kept_stands (b ∷ l) zero h = h
kept_stands (b ∷ l) (suc at) h = rw (eqb-suc-zero at) (go (makes true (b ∷ l)) h)
  where
    go : (t : Bool) → cond {A = Bool} t (begins false 15 l at) (begins false zero l at) ≡ true → makes false (drop at l) ≡ true
    go true h = later_stands 15 l at h
    go false h = later_stands zero l at h

pub lost_under : (s : List ℕ) (at : ℕ) → stands s at ≡ true → kept_at s at ≡ false → (before : ℕ) × (before < at) × Has s before at
unfolding begins
lost_under [] zero h e = absurd (omega (arith, makes_long true [] h))
lost_under (b ∷ l) zero h e = absurd (true≢false (sym h ∙ e))
lost_under s (suc at) h e = go (kept_of_record s (suc at) (first_kept true zero s (suc at) (rw (eqb-suc-zero at) at h)))
  where
    other : (before : ℕ) → kept_at s before ≡ true → before ≡ suc at → ⊥
    other before g q = true≢false (sym (rw q at g) ∙ e)

    go : (before : ℕ) × Has s before (suc at) → (before : ℕ) × (before < suc at) × Has s before (suc at)
    go (before, (g, o, p)) = let n = other before g in (before, omega arith, (g, o, p))

pub under_lost : (s : List ℕ) (at before : ℕ) → before < at → Has s before at → kept_at s at ≡ false
under_lost s at before o (h, _, p) = over_none true zero s before at h o p

pub next_kept : (s : List ℕ) (at : ℕ) → kept_at s at ≡ true → stands s (at + 16) ≡ true → kept_at s (at + 16) ≡ true
next_kept s at k h = go (kept_at s (at + 16)) refl
  where
    none : (before : ℕ) × (before < at + 16) × Has s before (at + 16) → ⊥
    none (before, o, (g, p, q)) = true≢false (sym g ∙ under_lost s before at (omega arith) (k, omega arith, o))

    go : (t : Bool) → kept_at s (at + 16) ≡ t → t ≡ true
    go true e = refl
    go false e = absurd (none (lost_under s (at + 16) h e))
