-- Laws of the definitions on tables: what one turn of a loop over a table does to each, by the entry that the turn looks at.
-- A loop's invariant says that the whole is what was gathered so far with the same of the rest, `drop i l`. Assumes nothing.
use Prim.Native.Nat.{ℕ, zero, suc, ◌+◌, ◌-◌, ◌≤◌, ◌<◌}
use native.Mathlib.Numerals.{add-one}
use native.Mathlib.Omega.{arith}
use mathlib.Core.Path.{◌≡◌, refl, sym, ap, ◌∙◌}
use mathlib.Core.Bool.{Bool, true, false, cond, ◌&&◌, and-true, and_assoc}
use mathlib.Core.List.{List, [], ◌∷◌, ◌++◌, append-nil}
use lib.Dec.{eqb}
use Rattle.std.specs.List.{count_by, copy_within}
use Rattle.std.proofs.lemmas.List.Recursion.{is_count_by}
use Rattle.std.proofs.Common.{length-take-le}
use lib.ListN.{length, length-append, take, drop, set, drop_of_length-le, length-drop, get_or-eq_default}
use lib.Seq.{drop-cons, take-take, take_all, paste, take-paste, length-paste, take-append-le, drop-append_seam, set_out, set_split}
use Rattle.rules.specs.Line.{at, count, one_if, every}
use Rattle.kernel_line.specs.Tables.{shift, place, lead, insert, pop}

-- a lookup and a store past the end
pub read_out : (l : List ℕ) (n t : ℕ) → length l ≡ n → n ≤ t → 0 ≡ at l t
read_out l n t e h = sym (get_or-eq_default l 0 (omega arith))

pub store_out : (l : List ℕ) (n t v : ℕ) → length l ≡ n → n ≤ t → l ≡ set l t v
store_out l n t v e h = sym (set_out l t v (omega arith))

-- a loop that counts up to the first stop
module _ (stop : ℕ → Bool) (l : List ℕ) (i : ℕ) where
  pub lead_step : i < length l → stop (at l i) ≡ false → i + lead stop (drop i l) ≡ (i + 1) + lead stop (drop (i + 1) l)
  unfolding lead
  lead_step h e = rw (drop-cons l i 0 h, e, add-one) (omega arith)

  pub lead_stop : i < length l → stop (at l i) ≡ true → i + lead stop (drop i l) ≡ i
  unfolding lead
  lead_stop h e = rw (drop-cons l i 0 h, e) (omega arith)

  pub lead_done : length l ≤ i → i + lead stop (drop i l) ≡ i
  unfolding lead
  lead_done h = rw (drop_of_length-le l h) (omega arith)

-- moved back: t in front, and each entry but the last one place further back
shifted : (n t : ℕ) (l : List ℕ) → length l ≡ suc n → shift t l ≡ t ∷ take n l
unfolding shift
shifted n t [] e = cc
shifted zero t (x ∷ []) e = refl
shifted zero t (x ∷ (y ∷ l)) e = cc
shifted (suc n) t (x ∷ l) e = ap (λ (m : List ℕ). t ∷ m) (shifted n x l (let h : length l ≡ suc n = omega arith in h))

-- n entries s, pasted behind the place i up to the end: what stands before the place, and behind it
module _ (l s : List ℕ) (i n : ℕ) (h : i < length l) where
  kept_at : length (take (i + 1) l) ≡ i + 1
  kept_at = length-take-le (i + 1) l (omega arith)

  pasted_front : take i (paste l (i + 1) s n) ≡ take i l
  pasted_front =
      let k : length (take (i + 1) l) ≡ i + 1 = kept_at in
      let most : i ≤ length (take (i + 1) l ++ take n s) = simp length-append (omega arith) in
      take-append-le i (take (i + 1) l ++ take n s) (drop (i + 1 + n) l) most ∙ take-append-le i (take (i + 1) l) (take n s) (omega arith)
      ∙ take-take i (i + 1) l (omega arith)

  pasted_back : i + 1 + n ≡ length l → drop (suc i) (paste l (i + 1) s n) ≡ take n s
  pasted_back e =
      let none : drop (i + 1 + n) l ≡ [] = drop_of_length-le l (omega arith) in
      rw (← add-one i, none, append-nil) (rw kept_at at (drop-append_seam (take (i + 1) l) (take n s)))

-- a place behind which the entries were moved back, but the last one, and then given to t
pub placed : (l : List ℕ) (i t : ℕ) → length l ≡ 32 → i < 32 → set (copy_within l i 31 (i + 1)) i t ≡ insert i t l
unfolding insert
placed l i t e h =
    let n : i + 1 + (31 - i) ≡ length l = omega arith in
    let out = copy_within l i 31 (i + 1) in
    let long : length out ≡ length l = length-paste l (i + 1) (drop i l) (31 - i) (omega arith) (simp length-drop (omega arith)) in
    let front : take i out ≡ take i l = pasted_front l (drop i l) i (31 - i) (omega arith) in
    let back : drop (suc i) out ≡ take (31 - i) (drop i l) = pasted_back l (drop i l) i (31 - i) (omega arith) n in
    let rest : length (drop i l) ≡ suc (31 - i) = simp length-drop (omega arith) in
    set_split out i t (omega arith) ∙ rw (front, back, shifted (31 - i) t (drop i l) rest)

-- a place past the end
pub insert_out : (l : List ℕ) (i t : ℕ) → length l ≡ 32 → 32 ≤ i → l ≡ insert i t l
unfolding insert shift
insert_out l i t n h =
    let past : length l ≤ i = omega arith in
    rw (take_all i l past, drop_of_length-le l past, append-nil)

-- placing is inserting where the test stops
place_by : (stop : ℕ → Bool) (t x : ℕ) (l : List ℕ) (b : Bool) → place stop t l ≡ insert (lead stop l) t l
    → cond b (t ∷ shift x l) (x ∷ place stop t l) ≡ insert (cond b 0 (suc (lead stop l))) t (x ∷ l)
unfolding insert shift
place_by stop t x l true e = refl
place_by stop t x l false e = ap (λ (m : List ℕ). x ∷ m) e

pub place_lead : (stop : ℕ → Bool) (t : ℕ) (l : List ℕ) → place stop t l ≡ insert (lead stop l) t l
unfolding place lead insert shift
place_lead stop t [] = refl
place_lead stop t (x ∷ l) = place_by stop t x l (stop x) (place_lead stop t l)

-- the entries moved forward, and the last place freed
pop_all : (l : List ℕ) → 0 < length l → pop l ≡ drop 1 l ++ (0 ∷ [])
unfolding pop
pop_all [] h = let z : ⊥ = omega arith in absurd z
pop_all (x ∷ l) h = refl

pub front_off : (l : List ℕ) → length l ≡ 32 → set (copy_within l 1 32 0) 31 0 ≡ pop l
front_off l e =
    let some : 0 < length l = omega arith in
    let rest : length (drop 1 l) ≡ 31 = simp length-drop (omega arith) in
    let out = copy_within l 1 32 0 in
    let long : length out ≡ 32 = length-paste l 0 (drop 1 l) 31 (omega arith) (omega arith) ∙ e in
    let past : length out ≤ 32 = omega arith in
    let moved : take 31 out ≡ take 31 (drop 1 l) = take-paste l 0 (drop 1 l) 31 (omega arith) (omega arith) in
    set_split out 31 0 (omega arith) ∙ rw (drop_of_length-le out past, moved, take_all 31 (drop 1 l) (omega arith), pop_all l some)

-- a loop that gathers a test of each entry
module _ (f : ℕ → Bool) (l : List ℕ) (i : ℕ) (b : Bool) where
  pub every_step : i < length l → b && every f (drop i l) ≡ b && f (at l i) && every f (drop (i + 1) l)
  every_step h = rw (add-one, drop-cons l i 0 h) (sym (and_assoc b (f (at l i)) (every f (drop (suc i) l))))

  pub every_done : length l ≤ i → b && every f (drop i l) ≡ b
  every_done h = rw (drop_of_length-le l h) (and-true b)

-- a count, as the library has it
pub counted : (t : ℕ) (l : List ℕ) → count_by (eqb t) l ≡ count t l
counted t l = sym (is_count_by (count t) (eqb t) refl (λ x xs. turn (eqb t x) (count t xs)) l)
  where
    turn : (b : Bool) (n : ℕ) → one_if b + n ≡ cond b (1 + n) n
    turn true n = refl
    turn false n = omega arith
