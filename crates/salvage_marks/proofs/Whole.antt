-- Each byte is kept or listed; the new tape is whole, that is, every byte of it is kept; and of a whole tape nothing is dropped. By induction on the marks, and
-- where a record is kept, on the length of what is left. Assumes nothing.
use Prim.Native.Nat.{ℕ, zero, suc, ◌+◌, ◌-◌, ◌*◌, ◌≤◌}
use native.Mathlib.Omega.{arith}
use mathlib.Core.Path.{◌≡◌, refl, sym, ap, ◌∙◌}
use mathlib.Core.Bool.{Bool, true, false, cond, true≢false}
use mathlib.Core.List.{List, [], ◌∷◌, ◌++◌}
use borrow.Author.Tests.{ltb-false}
use lib.Dec.{ltb}
use lib.ListN.{length, take, drop, replicate, length-append, length-drop, replicate-append-replicate}
use lib.Seq.{length-take-le, drop_at}
use Rattle.record.specs.Form.{record_of}
use Rattle.record.specs.declared.Record.{Record}
use Rattle.salvage_marks.specs.declared.Stretch.{Stretch}
use Rattle.salvage_marks.specs.Torn.{makes, marks, pick, closed, stretches, kept_on, total, kept, dropped, found_on, found}
use Rattle.salvage_marks.specs.Words.{Whole}
use Rattle.salvage_marks.proofs.Marks.{makes_long, makes_front, makes_first, marks_keep, marks_long, kept_keep, kept_drop, closed_none}

-- ---- each byte is kept or listed

closed_total : (from at : ℕ) (r : List Stretch) → from ≤ at → total (closed from at r) ≡ at - from + total r
unfolding closed total
closed_total from at r o = go (ltb from at) refl
  where
    go : (b : Bool) → ltb from at ≡ b → total (cond {A = List Stretch} b (record { first = from; size = at - from } ∷ r) r) ≡ at - from + total r
    go true e = refl
    go false e = let h : at ≤ from = ltb-false from at e in omega arith

all_bytes : (from at : ℕ) (ms : List Bool) (l : List ℕ) → length ms ≡ length l → from ≤ at
    → length (pick ms l) + total (stretches from at ms) ≡ at - from + length l
unfolding pick stretches total
all_bytes from at [] [] e o = rw (closed_total from at [] o) (omega arith)
all_bytes from at [] (b ∷ l) e o = absurd (omega arith)
all_bytes from at (m ∷ ms) [] e o = absurd (omega arith)
all_bytes from at (true ∷ ms) (b ∷ l) e o =
    rw (closed_total from at (stretches (suc at) (suc at) ms) o) (omega (arith, all_bytes (suc at) (suc at) ms l (omega arith) (omega arith)))
all_bytes from at (false ∷ ms) (b ∷ l) e o = omega (arith, all_bytes from (suc at) ms l (omega arith) (omega arith))

-- the kept bytes are 16 for each record
pub whole_records : (f : Bool) (k : ℕ) (l : List ℕ) → k ≤ length l → length (pick (marks f k l) l) ≡ k + 16 * length (found_on f k l)
unfolding marks pick found_on
whole_records f zero [] o = refl
whole_records f (suc k) [] o = absurd (omega arith)
whole_records f (suc k) (b ∷ l) o = omega (arith, whole_records false k l (omega arith))
whole_records f zero (b ∷ l) o = go (makes f (b ∷ l)) refl (λ h. whole_records false 15 l h) (whole_records false zero l (omega arith))
  where
    go : (t : Bool) → makes f (b ∷ l) ≡ t → (15 ≤ length l → length (pick (marks false 15 l) l) ≡ 15 + 16 * length (found_on false 15 l))
        → length (pick (marks false zero l) l) ≡ 0 + 16 * length (found_on false zero l)
        → length (pick (cond {A = List Bool} t (true ∷ marks false 15 l) (false ∷ marks false zero l)) (b ∷ l))
        ≡ 0 + 16 * length (cond {A = List Record} t (record_of (take 16 (b ∷ l)) ∷ found_on false 15 l) (found_on false zero l))
    go true e x y = let h : 16 ≤ length (b ∷ l) = makes_long f (b ∷ l) e in omega (arith, x (omega arith))
    go false e x y = omega arith

pub kept_long : (s : List ℕ) → length (kept s) ≡ 16 * length (found s)
unfolding kept found
kept_long s = omega (arith, whole_records true zero s (omega arith))

pub each_byte : (s : List ℕ) → 16 * length (found s) + total (dropped s) ≡ length s
unfolding dropped kept
each_byte s = omega (arith, kept_long s, all_bytes 0 0 (marks true zero s) s (marks_long true zero s) (omega arith))

-- ---- whole

-- 16 bytes that make a record, before what is whole
pub whole_joined : (f : Bool) (p r : List ℕ) → length p ≡ 16 → makes f (p ++ r) ≡ true → Whole false r → Whole f (p ++ r)
whole_joined f p r n e w =
    let z : length (p ++ r) ≡ 16 + length r = length-append p r ∙ ap (λ (k : ℕ). k + length r) n in
    marks_keep f (p ++ r) e ∙ rw (drop_at p r 16 n, w, z, replicate-append-replicate 16 (length r) true)

whole_on : (f : Bool) (l r : List ℕ) → makes f l ≡ true → Whole false r → Whole f (take 16 l ++ r)
whole_on f l r e w = whole_joined f (take 16 l) r (length-take-le 16 l (makes_long f l e)) (makes_front f l r e) w

-- what makes a record at a place that is byte 0 (f) makes one at byte 0 of the new tape (g)
moved : (f g : Bool) (l : List ℕ) → (f ≡ true → g ≡ true) → makes f l ≡ true → makes g l ≡ true
moved true g l i e = rw (i refl) e
moved false g l i e = makes_first g l e

kept_step : (f g : Bool) (l : List ℕ) → ((f' g' : Bool) (r : List ℕ) → suc (length r) ≤ length l → (f' ≡ true → g' ≡ true) → Whole g' (kept_on f' r))
    → (f ≡ true → g ≡ true) → Whole g (kept_on f l)
unfolding pick marks
kept_step f g [] ih i = refl
kept_step f g (b ∷ l) ih i = go (makes f (b ∷ l)) refl
  where
    go : (t : Bool) → makes f (b ∷ l) ≡ t → Whole g (kept_on f (b ∷ l))
    go true e =
        rw (kept_keep f (b ∷ l) e)
        (whole_on g (b ∷ l) (kept_on false (drop 16 (b ∷ l))) (moved f g (b ∷ l) i e)
        (ih false false (drop 16 (b ∷ l)) (omega (arith, length-drop 16 (b ∷ l))) (λ z. z)))
    go false e = rw (kept_drop f b l e) (ih false g l (omega arith) (λ z. absurd (true≢false (sym z))))

kept_whole : (n : ℕ) (f g : Bool) (l : List ℕ) → length l ≤ n → (f ≡ true → g ≡ true) → Whole g (kept_on f l)
kept_whole zero f g l o i = kept_step f g l (λ f' g' r h j. absurd (omega arith)) i
kept_whole (suc n) f g l o i = kept_step f g l (λ f' g' r h j. kept_whole n f' g' r (omega arith) j) i

-- the new tape is whole
pub new_whole : (s : List ℕ) → Whole true (kept s)
unfolding kept
new_whole s = kept_whole (length s) true true s (omega arith) (λ z. z)

pub pick_all : (l : List ℕ) → pick (replicate (length l) true) l ≡ l
unfolding pick
pick_all [] = refl
pick_all (b ∷ l) = ap (λ (x : List ℕ). b ∷ x) (pick_all l)

pub no_stretch : (n at : ℕ) → stretches at at (replicate n true) ≡ []
unfolding stretches
no_stretch zero at = closed_none at []
no_stretch (suc n) at = closed_none at _ ∙ no_stretch n (suc at)

-- of a whole tape all is kept and nothing is listed
pub whole_same : (s : List ℕ) → Whole true s → (kept s ≡ s) × (dropped s ≡ [])
unfolding kept dropped
whole_same s w = (ap (λ (m : List Bool). pick m s) w ∙ pick_all s, ap (stretches 0 0) w ∙ no_stretch (length s) 0)
