-- What a turn of each loop over a line does, over plain lists, and how a line falls into a word and what is behind it. Assumes nothing.
use Prim.Native.Nat.{ℕ, suc, ◌+◌, ◌-◌, ◌≤◌, ◌<◌}
use native.Mathlib.Omega.{arith}
use native.Mathlib.Numerals.{add-one}
use mathlib.Core.Bool.{Bool, true, false, cond, and-false}
use mathlib.Core.Path.{◌≡◌, refl, ap, sym}
use mathlib.Core.List.{List, [], ◌∷◌, ◌++◌}
use borrow.Author.Tests.{eq-eqb, ne_eqb}
use lib.Dec.{eqb}
use lib.ListN.{length, take, drop, get_or, drop_of_length-le, take-append-drop, length-append, length-drop}
use lib.Seq.{drop-cons, drop-drop}
use Rattle.text.specs.Words.{before, onward, same}

-- ---- the loop that looks for a byte, at index i

module _ (stop : ℕ) (s : List ℕ) (i : ℕ) where
  pub found : i < length s → get_or s i 0 ≡ stop → length (before stop (drop i s)) ≡ 0
  unfolding before
  found h e = rw (drop-cons s i 0 h, eq-eqb (get_or s i 0) stop e)

  pub passed : i < length s → (get_or s i 0 ≡ stop → ⊥) → i + 1 + length (before stop (drop (i + 1) s)) ≡ i + length (before stop (drop i s))
  unfolding before
  passed h e = rw (add-one, drop-cons s i 0 h, ne_eqb (get_or s i 0) stop e) (omega arith)

  pub not_found : length s ≤ i → length (before stop (drop i s)) ≡ 0
  unfolding before
  not_found h = rw (drop_of_length-le s h)

-- ---- the loop that compares, at index i

pub differ_in_length : (a b : List ℕ) → (length a ≡ length b → ⊥) → false ≡ same a b
unfolding same
differ_in_length [] [] h = absurd (h refl)
differ_in_length [] (y ∷ b) h = refl
differ_in_length (x ∷ a) [] h = refl
differ_in_length (x ∷ a) (y ∷ b) h = rw (← differ_in_length a b (λ e. h (ap suc e))) (sym (and-false (eqb x y)))

module _ (a b : List ℕ) where
  module _ (i : ℕ) (ha : i < length a) (hb : i < length b) where
    pub same_here : get_or a i 0 ≡ get_or b i 0 → same (drop (i + 1) a) (drop (i + 1) b) ≡ same (drop i a) (drop i b)
    unfolding same
    same_here e = rw (add-one, drop-cons a i 0 ha, drop-cons b i 0 hb, eq-eqb (get_or a i 0) (get_or b i 0) e)

    pub differ_here : (get_or a i 0 ≡ get_or b i 0 → ⊥) → false ≡ same (drop i a) (drop i b)
    unfolding same
    differ_here e = rw (drop-cons a i 0 ha, drop-cons b i 0 hb, ne_eqb (get_or a i 0) (get_or b i 0) e)

  pub same_all : (i : ℕ) → length a ≤ i → length b ≤ i → true ≡ same (drop i a) (drop i b)
  unfolding same
  same_all i ha hb = rw (drop_of_length-le a ha, drop_of_length-le b hb)

-- ---- a word, and what is behind it

module _ (stop : ℕ) where
  pub take_before : (l : List ℕ) → take (length (before stop l)) l ≡ before stop l
  unfolding before
  take_before [] = refl
  take_before (b ∷ l) = go (eqb b stop) (take_before l)
    where
      go : (t : Bool) → take (length (before stop l)) l ≡ before stop l → take (length (cond t [] (b ∷ before stop l))) (b ∷ l) ≡ cond t [] (b ∷ before stop l)
      go true e = refl
      go false e = ap (λ (m : List ℕ). b ∷ m) e

  pub drop_before : (l : List ℕ) → drop (length (before stop l)) l ≡ onward stop l
  unfolding before onward
  drop_before [] = refl
  drop_before (b ∷ l) = go (eqb b stop) (drop_before l)
    where
      go : (t : Bool) → drop (length (before stop l)) l ≡ onward stop l → drop (length (cond t [] (b ∷ before stop l))) (b ∷ l) ≡ cond t (b ∷ l) (onward stop l)
      go true e = refl
      go false e = e

  pub word_behind : (l : List ℕ) → l ≡ before stop l ++ onward stop l
  word_behind l = sym (rw (← take_before l, ← drop_before l) (take-append-drop (length (before stop l)) l))

  -- the same of a place of a line, where the place behind the word is known
  module _ (s : List ℕ) (at end : ℕ) (e : end ≡ at + length (before stop (drop at s))) where
    pub word_part : take (end - at) (drop at s) ≡ before stop (drop at s)
    word_part = let d : end - at ≡ length (before stop (drop at s)) = omega arith in rw d (take_before (drop at s))

    pub behind_part : drop end s ≡ onward stop (drop at s)
    behind_part = rw (e, ← drop-drop (length (before stop (drop at s))) at s) (drop_before (drop at s))

    -- and it lies in the line where the first place does
    pub place_within : at ≤ length s → end ≤ length s
    place_within h =
        let l = simp length-append at (ap length (word_behind (drop at s))) in
        omega (arith, e, h, l, length-drop at s)
