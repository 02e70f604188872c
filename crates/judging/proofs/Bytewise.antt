-- The code, which takes a record where it lies, does what single bytes would (judge_pieces/proofs/Bytewise). Assumes nothing.
use Prim.Native.Nat.{ℕ, zero, suc, ◌+◌, ◌-◌, ◌*◌, ◌/◌, ◌≤◌, ◌<◌, min}
use native.Mathlib.Nat.{le_of_eq, min-le_left}
use native.Mathlib.Omega.{arith}
use mathlib.Core.Path.{◌≡◌, refl, sym, ap, ◌∙◌}
use mathlib.Core.List.{List, [], ◌∷◌, ◌++◌}
use lib.ListN.{length, take, drop, get_or, get_or-append, get_or-eq_default, length-append, length-drop}
use lib.Seq.{length-take-le, get_or-take, get_or-append-add, take_all, drop-drop}
use Rattle.tape_form.proofs.Reading.{sixteen}
use Rattle.kernel.specs.View.{pad}
use Rattle.kernel.proofs.Padded.{pad_size}
use Rattle.judge_pieces.specs.declared.Run.{Run}
use Rattle.judging.specs.declared.Judge.{Judge}
use Rattle.judge_pieces.specs.Bytes.{bytes}
use Rattle.judge_pieces.proofs.Bytewise.{bytes_short, bytes_whole, bytes_begun}
use Rattle.judging.specs.Pieces.{pending_of, fed, through}
use Rattle.judge_pieces.specs.Onward.{onward}

-- ---- lists of 16

-- a list cut or filled up to n
pub pad_take : (n : ℕ) (l : List ℕ) → n ≤ length l → pad n l ≡ take n l
pad_take zero l o = refl
pad_take (suc n) [] o = absurd (omega arith)
pad_take (suc n) (x ∷ l) o = ap (λ (m : List ℕ). x ∷ m) (pad_take n l (omega arith))

pub take_pad : (n k : ℕ) (l : List ℕ) → length l ≡ k → k ≤ n → take k (pad n l) ≡ l
take_pad n k [] e o = rw (← e)
take_pad zero k (x ∷ l) e o = absurd (omega arith)
take_pad (suc n) zero (x ∷ l) e o = absurd (omega arith)
take_pad (suc n) (suc k) (x ∷ l) e o = ap (λ (m : List ℕ). x ∷ m) (take_pad n k l (omega arith) (omega arith))

pub get_d_pad : (n : ℕ) (l : List ℕ) (i : ℕ) → i < n → get_or (pad n l) i 0 ≡ get_or l i 0
get_d_pad zero l i o = absurd (omega arith)
get_d_pad (suc n) [] zero o = refl
get_d_pad (suc n) [] (suc i) o = get_d_pad n [] i (omega arith)
get_d_pad (suc n) (x ∷ l) zero o = refl
get_d_pad (suc n) (x ∷ l) (suc i) o = get_d_pad n l i (omega arith)

pub take_more : (l p : List ℕ) (n : ℕ) → length l ≤ n → take n (l ++ p) ≡ l ++ take (n - length l) p
take_more [] p n o = let e : n - 0 ≡ n = omega arith in rw e
take_more (x ∷ l) p zero o = absurd (omega arith)
take_more (x ∷ l) p (suc n) o =
    let e : suc n - suc (length l) ≡ n - length l = omega arith in
    rw e (ap (λ (m : List ℕ). x ∷ m) (take_more l p n (omega arith)))

-- the first n of h, and then p: entry by entry
module _ (h p : List ℕ) (n i : ℕ) (o : n ≤ length h) where
  taken_long : length (take n h) ≡ n
  taken_long = length-take-le n h o

  pub entry_held : i < n → get_or h i 0 ≡ get_or (take n h ++ p) i 0
  entry_held k = sym (get_or-append (take n h) p 0 i (rw taken_long k) ∙ get_or-take n h i 0 k)

  pub entry_new : n ≤ i → get_or p (i - n) 0 ≡ get_or (take n h ++ p) i 0
  entry_new k =
      let e : length (take n h) + (i - n) ≡ i = rw taken_long (omega arith) in
      sym (get_or-append-add (take n h) p (i - n) 0) ∙ ap (λ (j : ℕ). get_or (take n h ++ p) j 0) e

  pub entry_none : n ≤ i → length p ≤ i - n → 0 ≡ get_or (take n h ++ p) i 0
  entry_none k l = sym (get_or-eq_default p 0 {n = i - n} l) ∙ entry_new k

-- ---- the code's ways

-- a record alone
through_one : (x : Run) (l : List ℕ) → length l ≡ 16 → (through x l).run ≡ onward x l
unfolding through
through_one x l e = rw (bytes_whole x [] l (omega arith) (omega arith))

-- a piece too short for a record
pub fed_short : (j : Judge) (p l : List ℕ) → l ≡ (pending_of j).begun → length l + length p ≤ 15
    → record { run = j.run; held = pad 16 (l ++ p); count = length l + length p } ≡ fed j p
unfolding fed
fed_short j p l e o = rw (← e, bytes_short j.run l p o, length-append l p)

-- a piece that makes a record whole
pub fed_whole : (j : Judge) (p l : List ℕ) → l ≡ (pending_of j).begun → length l ≤ 15 → 16 ≤ length l + length p
    → through (onward j.run (pad 16 (l ++ p))) (drop (16 - length l) p) ≡ fed j p
unfolding fed through
fed_whole j p l e o k =
    let w : pad 16 (l ++ p) ≡ l ++ take (16 - length l) p = pad_take 16 (l ++ p) (rw (length-append l p) k) ∙ take_more l p 16 (omega arith) in
    rw (← e, w, bytes_begun j.run l p o k)

-- the same, of a count that the code has found
module _ (j : Judge) (p : List ℕ) (n : ℕ) (en : n ≡ min 15 j.count) (z : length j.held ≡ 16) (first : List ℕ)
    (ef : first ≡ pad 16 (take n j.held ++ p)) where
  few : n ≤ 15
  few = rw en (min-le_left 15 j.count)

  begun_long : length (take n j.held) ≡ n
  begun_long = let o : n ≤ 15 = few in length-take-le n j.held (omega arith)

  begun_is : take n j.held ≡ (pending_of j).begun
  begun_is = ap (λ (m : ℕ). take m j.held) en

  pub feed_short : length p < 16 - n → record { run = j.run; held = first; count = n + length p } ≡ fed j p
  feed_short o = rw ef (rw begun_long at (fed_short j p (take n j.held) begun_is (rw begun_long (omega arith))))

  pub feed_whole : (y : Run) → y ≡ (through j.run first).run → 16 - n ≤ length p → through y (take (length p - (16 - n)) (drop (16 - n) p)) ≡ fed j p
  feed_whole y ey o =
      let f : n ≤ 15 = few in
      let whole : length first ≡ 16 = rw ef (pad_size 16 (take n j.held ++ p)) in
      rw (take_all (length p - (16 - n)) (drop (16 - n) p) (le_of_eq (length-drop (16 - n) p)), ey, through_one j.run first whole, ef)
      (rw begun_long at (fed_whole j p (take n j.held) begun_is (rw begun_long f) (rw begun_long (omega arith))))

-- whole records, and what is left
pub through_record : (x : Run) (l : List ℕ) → 16 ≤ length l → through (onward x (take 16 l)) (drop 16 l) ≡ through x l
unfolding through
through_record x l o = rw (bytes_begun x [] l (omega arith) (omega arith))

-- what is left behind k records
left_over : (k : ℕ) (x : Run) (l : List ℕ) → 16 * k ≤ length l → length l < 16 * k + 16 → (bytes (record { run = x; begun = [] }) l).begun ≡ drop (16 * k) l
left_over zero x l a b = rw (bytes_short x [] l (omega arith))
left_over (suc k) x l a b =
    let e : 16 * suc k ≡ 16 + 16 * k = omega arith in
    let d : length (drop 16 l) ≡ length l - 16 = length-drop 16 l in
    rw (bytes_begun x [] l (omega arith) (omega arith), e, left_over k (onward x (take 16 l)) (drop 16 l) (omega arith) (omega arith))
    (drop-drop (16 * k) 16 l)

-- a turn of the loop over a piece, and its end
pub through_turn : (x y : Run) (s : List ℕ) (at : ℕ) → y ≡ onward x (take (at + 16 - at) (drop at s)) → at + 16 ≤ length s
    → through y (drop (at + 16) s) ≡ through x (drop at s)
through_turn x y s at e o = rw (e, sixteen s at, ← drop-drop 16 at s) (through_record x (drop at s) (rw (length-drop at s) (omega arith)))

pub through_end : (x : Run) (s : List ℕ) (at : ℕ) → length s - at ≤ 15 → x ≡ (through x (drop at s)).run
unfolding through
through_end x s at o = rw (bytes_short x [] (drop at s) (rw (length-drop at s) (omega arith)))

-- the run behind a piece, and what is left of it
pub through_rest : (x y : Run) (s : List ℕ) (at : ℕ) (held : List ℕ) → y ≡ (through x s).run → at ≡ 16 * (length s / 16)
    → held ≡ pad 16 (take (length s - at) (drop at s)) → record { run = y; held = held; count = length s - at } ≡ through x s
unfolding through
through_rest x y s at held ey ea eh =
    let b : (bytes (record { run = x; begun = [] }) s).begun ≡ drop at s = rw ea (left_over (length s / 16) x s (omega arith) (omega arith)) in
    rw (ey, eh, take_all (length s - at) (drop at s) (le_of_eq (length-drop at s)), b, length-drop at s)
