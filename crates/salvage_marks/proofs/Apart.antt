-- Where the stretches stand: in order, none empty, whole records between two of them and at the tape's ends; and what is not listed is the new tape, byte for
-- byte. By induction on the length of what is left: a record that is kept moves the place by 16. Assumes nothing.
use Prim.Native.Nat.{ℕ, zero, suc, ◌+◌, ◌-◌, ◌%◌, ◌≤◌, ◌<◌}
use native.Mathlib.Omega.{arith}
use mathlib.Core.Path.{◌≡◌, refl, sym, ap, ◌∙◌}
use mathlib.Core.Bool.{Bool, true, false}
use mathlib.Core.List.{List, [], ◌∷◌, ◌++◌, append_assoc}
use borrow.Author.Tests.{ltb-true, ltb-false}
use lib.Dec.{ltb}
use lib.ListN.{length, take, drop, length-drop, length-append, take-append-drop}
use lib.Seq.{length-take-le, drop_at, take_all, take-take, take-append-le}
use Rattle.salvage_marks.specs.declared.Stretch.{Stretch}
use Rattle.salvage_marks.specs.Torn.{makes, marks, pick, closed, stretches, kept_on, dropped_on, kept, dropped}
use Rattle.salvage_marks.specs.Words.{Apart, cut}
use Rattle.salvage_marks.proofs.Marks.{makes_long, kept_keep, kept_drop, dropped_keep, dropped_drop, closed_one, closed_no}

-- What is shown of what is left of a tape, l, at the place `at`. Behind the place `base` whole records were kept up to `from`, and all bytes from there on
-- dropped.
abbrev Stands : ℕ → ℕ → ℕ → ℕ → ℕ → List ℕ → List Stretch → List ℕ → Type 0
Stands k base from at n l xs q = Apart k base n xs × ((r : List ℕ) → length r ≡ at - base → cut base xs (r ++ l) ≡ take (from - base) r ++ q)

abbrev Shown : ℕ → Type 0
Shown m =
    (f : Bool) (k base from at n : ℕ) (l : List ℕ) → suc (length l) ≤ m → at + length l ≡ n → base + k ≤ from → (from - base) % 16 ≡ 0 → from ≤ at
    → Stands k base from at n l (dropped_on f from at l) (kept_on f l)

module _ (k base from at n : ℕ) (o : base + k ≤ from) (w : (from - base) % 16 ≡ 0) (u : from ≤ at) where
  -- a stretch ends here
  one_more : (xs : List Stretch) (l q : List ℕ) → from < at → at ≤ n → Apart 16 at n xs → cut at xs l ≡ q → Stands k base from at n l (closed from at xs) q
  one_more xs l q h v a c =
      let e : from + (at - from) ≡ at = omega arith in
      rw (closed_one from at xs h) (
        (o, w, omega arith, omega arith, rw e a),
        λ r m. rw (e, drop_at r l (at - base) m, c) (ap (λ (x : List ℕ). x ++ q) (take-append-le (from - base) r l (omega arith))),
      )

  at_end : (f : Bool) → at ≡ n → Stands k base from at n [] (dropped_on f from at []) (kept_on f [])
  unfolding marks pick stretches
  at_end f e = go (ltb from at) refl
    where
      go : (b : Bool) → ltb from at ≡ b → Stands k base from at n [] (closed from at []) []
      go true t =
          let h : from < at = ltb-true from at t in
          let d : n - at ≡ 0 = omega arith in
          one_more [] [] [] h (omega arith) (omega arith, rw d) refl
      go false t =
          let h : at ≤ from = ltb-false from at t in
          let d : n ≡ from = omega arith in
          rw (closed_no from at [] h) ((omega arith, rw d w), λ r m. ap (λ (x : List ℕ). x ++ []) (sym (take_all (from - base) r (omega arith))))

  kept_here : (f : Bool) (l : List ℕ) → makes f l ≡ true → at + length l ≡ n → Shown (length l)
      → Stands k base from at n l (dropped_on f from at l) (kept_on f l)
  kept_here f l t e ih = rw (dropped_keep f from at l t, kept_keep f l t) (go (ltb from at) refl)
    where
      long : 16 ≤ length l
      long = makes_long f l t

      sixteen : length (take 16 l) ≡ 16
      sixteen = length-take-le 16 l long

      xs : List Stretch
      xs = dropped_on false (at + 16) (at + 16) (drop 16 l)

      q : List ℕ
      q = kept_on false (drop 16 l)

      go : (b : Bool) → ltb from at ≡ b → Stands k base from at n l (closed from at xs) (take 16 l ++ q)
      go true b =
          let h : from < at = ltb-true from at b in
          let y : 16 ≤ length l = long in
          let d : at + 16 - at ≡ 16 = omega arith in
          let m = length-drop 16 l in
          let z = ih false 16 at (at + 16) (at + 16) n (drop 16 l) (omega arith) (omega arith) (omega arith) (rw d) (omega arith) in
          let tk : take (at + 16 - at) (take 16 l) ≡ take 16 l = rw d (take-take 16 16 l (omega arith)) in
          let c : cut at xs l ≡ take 16 l ++ q =
          ap (cut at xs) (sym (take-append-drop 16 l)) ∙ z.1 (take 16 l) (sixteen ∙ sym d) ∙ ap (λ (x : List ℕ). x ++ q) tk in
          one_more xs l (take 16 l ++ q) h (omega arith) z.0 c
      go false b =
          let h : at ≤ from = ltb-false from at b in
          let v : 16 ≤ length l = long in
          let m = length-drop 16 l in
          let z = ih false k base (at + 16) (at + 16) n (drop 16 l) (omega arith) (omega arith) (omega arith) (omega arith) (omega arith) in
          rw (closed_no from at xs h) (
            z.0,
            λ r m.
                let y : length (r ++ take 16 l) ≡ at + 16 - base = length-append r (take 16 l) ∙ omega (arith, sixteen) in
                ap (λ (x : List ℕ). cut base xs (r ++ x)) (sym (take-append-drop 16 l)) ∙ ap (cut base xs) (sym (append_assoc r (take 16 l) (drop 16 l)))
                ∙ z.1 (r ++ take 16 l) y ∙ ap (λ (x : List ℕ). x ++ q) (take_all (at + 16 - base) (r ++ take 16 l) (omega arith))
                ∙ append_assoc r (take 16 l) q ∙ ap (λ (x : List ℕ). x ++ (take 16 l ++ q)) (sym (take_all (from - base) r (omega arith))),
          )

  dropped_here : (f : Bool) (b : ℕ) (l : List ℕ) → makes f (b ∷ l) ≡ false → at + suc (length l) ≡ n → Shown (suc (length l))
      → Stands k base from at n (b ∷ l) (dropped_on f from at (b ∷ l)) (kept_on f (b ∷ l))
  dropped_here f b l t e ih =
      let z = ih false k base from (at + 1) n l (omega arith) (omega arith) o w (omega arith) in
      rw (dropped_drop f from at b l t, kept_drop f b l t) (
        z.0,
        λ r m.
            let y : length (r ++ (b ∷ [])) ≡ at + 1 - base = length-append r (b ∷ []) ∙ omega arith in
            ap (cut base (dropped_on false from (at + 1) l)) (sym (append_assoc r (b ∷ []) l)) ∙ z.1 (r ++ (b ∷ [])) y
            ∙ ap (λ (x : List ℕ). x ++ kept_on false l) (take-append-le (from - base) r (b ∷ []) (omega arith)),
      )

  step : (f : Bool) (l : List ℕ) → at + length l ≡ n → Shown (length l) → Stands k base from at n l (dropped_on f from at l) (kept_on f l)
  step f [] e ih = at_end f (omega arith)
  step f (b ∷ l) e ih = go (makes f (b ∷ l)) refl
    where
      go : (t : Bool) → makes f (b ∷ l) ≡ t → Stands k base from at n (b ∷ l) (dropped_on f from at (b ∷ l)) (kept_on f (b ∷ l))
      go true t = kept_here f (b ∷ l) t e ih
      go false t = dropped_here f b l t e ih

shown : (m : ℕ) → Shown m
shown zero f k base from at n l h e o w u = absurd (omega arith)
shown (suc m) f k base from at n l h e o w u =
    step k base from at n o w u f l e (λ f' k' base' from' at' n' r h' e' o' w' u'. shown m f' k' base' from' at' n' r (omega arith) e' o' w' u')

pub all_apart : (s : List ℕ) → Apart 0 0 (length s) (dropped s)
unfolding dropped
all_apart s = (shown (suc (length s)) true 0 0 0 0 (length s) s (omega arith) (omega arith) (omega arith) refl (omega arith)).0

pub cut_out : (s : List ℕ) → cut 0 (dropped s) s ≡ kept s
unfolding dropped kept
cut_out s = (shown (suc (length s)) true 0 0 0 0 (length s) s (omega arith) (omega arith) (omega arith) refl (omega arith)).1 [] refl
