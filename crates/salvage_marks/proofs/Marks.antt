-- Laws of the marks, and of what is picked and listed by them: a record that is kept makes sixteen marks, a byte that is dropped makes one. Assumes nothing.
use Prim.Native.Nat.{ℕ, zero, suc, ◌+◌, ◌-◌, ◌*◌, ◌≤◌, ◌<◌}
use native.Mathlib.Omega.{arith}
use native.Mathlib.Numerals.{add-one}
use mathlib.Core.Path.{◌≡◌, refl, sym, ap, ◌∙◌}
use mathlib.Core.Bool.{Bool, true, false, cond, ◌&&◌, ◌||◌, true≢false}
use mathlib.Core.List.{List, [], ◌∷◌, ◌++◌}
use borrow.Author.Tests.{leb-true, le-leb, lt-leb, lt-ltb, le-ltb}
use lib.Dec.{leb, ltb}
use lib.ListN.{length, take, drop, replicate, length-append}
use lib.Seq.{sets, sets-eq, length-take-le, take_at, drop_at, take-append-le}
use Rattle.record.specs.Form.{is_header, is_command}
use Rattle.salvage_marks.specs.declared.Stretch.{Stretch}
use Rattle.salvage_marks.specs.Torn.{is_record, makes, marks, pick, closed, stretches, kept_on, dropped_on, cells}
use Rattle.salvage_marks.specs.Words.{Front}

-- ---- what makes a record

pub both_true : {x y : Bool} → (x && y) ≡ true → (x ≡ true) × (y ≡ true)
both_true {x = true} {y = true} e = (refl, refl)
both_true {x = true} {y = false} e = (refl, e)
both_true {x = false} e = (e, absurd (true≢false (sym e)))

pub and_false : (x : Bool) → (x && false) ≡ false
and_false true = refl
and_false false = refl

-- it has 16 bytes
pub makes_long : (f : Bool) (l : List ℕ) → makes f l ≡ true → 16 ≤ length l
unfolding makes
makes_long f l e = leb-true 16 (length l) (both_true e).0

pub makes_record : (f : Bool) (l : List ℕ) → makes f l ≡ true → is_record f (take 16 l) ≡ true
unfolding makes
makes_record f l e = (both_true {x = leb 16 (length l)} e).1

-- it goes by its first 16 bytes
pub makes_extend : (f : Bool) (l r : List ℕ) → 16 ≤ length l → makes f (l ++ r) ≡ makes f l
unfolding makes
makes_extend f l r o =
    let k : 16 ≤ length (l ++ r) = omega (arith, length-append l r) in
    rw (le-leb 16 (length (l ++ r)) k, le-leb 16 (length l) o, take-append-le 16 l r o)

pub makes_front : (f : Bool) (l r : List ℕ) → makes f l ≡ true → makes f (take 16 l ++ r) ≡ true
unfolding makes
makes_front f l r e =
    let h : 16 ≤ length l = makes_long f l e in
    let n : length (take 16 l) ≡ 16 = length-take-le 16 l h in
    let o : 16 ≤ length (take 16 l ++ r) = omega (arith, length-append (take 16 l) r) in
    rw (le-leb 16 (length (take 16 l ++ r)) o, take_at (take 16 l) r 16 n) (rw (le-leb 16 (length l) h) at e)

pub makes_short : (f : Bool) (l : List ℕ) → length l < 16 → makes f l ≡ false
unfolding makes
makes_short f l o = rw (lt-leb 16 (length l) o)

-- what makes a record anywhere makes one at byte 0
pub makes_first : (f : Bool) (l : List ℕ) → makes false l ≡ true → makes f l ≡ true
unfolding makes
makes_first f l = go f (leb 16 (length l)) (is_command (take 16 l)) (is_header (take 16 l))
  where
    go : (f n k h : Bool) → (n && (k || (false && h))) ≡ true → (n && (k || (f && h))) ≡ true
    go f true true h e = refl
    go f true false h e = absurd (true≢false (sym e))
    go f false k h e = absurd (true≢false (sym e))

-- ---- marks

-- the rest of a record that is kept
pub marks_k : (f : Bool) (k : ℕ) (l : List ℕ) → suc k ≤ length l → marks f (suc k) l ≡ replicate (suc k) true ++ marks false zero (drop (suc k) l)
unfolding marks
marks_k f k [] o = absurd (omega arith)
marks_k f zero (b ∷ l) o = refl
marks_k f (suc k) (b ∷ l) o = ap (λ (m : List Bool). true ∷ m) (marks_k false k l (omega arith))

marks_keep_on : (f : Bool) (l : List ℕ) → makes f l ≡ true → 16 ≤ length l → marks f zero l ≡ replicate 16 true ++ marks false zero (drop 16 l)
unfolding marks
marks_keep_on f [] e o = absurd (omega arith)
marks_keep_on f (b ∷ l) e o = rw e (ap (λ (m : List Bool). true ∷ m) (marks_k false 14 l (omega arith)))

pub marks_keep : (f : Bool) (l : List ℕ) → makes f l ≡ true → marks f zero l ≡ replicate 16 true ++ marks false zero (drop 16 l)
marks_keep f l e = marks_keep_on f l e (makes_long f l e)

pub marks_drop : (f : Bool) (b : ℕ) (l : List ℕ) → makes f (b ∷ l) ≡ false → marks f zero (b ∷ l) ≡ false ∷ marks false zero l
unfolding marks
marks_drop f b l e = rw e

-- a mark for each byte
pub marks_long : (f : Bool) (k : ℕ) (l : List ℕ) → length (marks f k l) ≡ length l
unfolding marks
marks_long f k [] = refl
marks_long f (suc k) (b ∷ l) = ap suc (marks_long false k l)
marks_long f zero (b ∷ l) = go (makes f (b ∷ l)) (marks_long false 15 l) (marks_long false zero l)
  where
    go : (t : Bool) → length (marks false 15 l) ≡ length l → length (marks false zero l) ≡ length l
        → length (cond {A = List Bool} t (true ∷ marks false 15 l) (false ∷ marks false zero l)) ≡ suc (length l)
    go true x y = ap suc x
    go false x y = ap suc y

-- ---- picked

pub pick_trues : (n : ℕ) (ms : List Bool) (l : List ℕ) → n ≤ length l → pick (replicate n true ++ ms) l ≡ take n l ++ pick ms (drop n l)
unfolding pick
pick_trues zero ms l o = refl
pick_trues (suc n) ms [] o = absurd (omega arith)
pick_trues (suc n) ms (b ∷ l) o = ap (λ (m : List ℕ). b ∷ m) (pick_trues n ms l (omega arith))

pub kept_keep : (f : Bool) (l : List ℕ) → makes f l ≡ true → kept_on f l ≡ take 16 l ++ kept_on false (drop 16 l)
kept_keep f l e = rw (marks_keep f l e) (pick_trues 16 (marks false zero (drop 16 l)) l (makes_long f l e))

pub kept_drop : (f : Bool) (b : ℕ) (l : List ℕ) → makes f (b ∷ l) ≡ false → kept_on f (b ∷ l) ≡ kept_on false l
unfolding pick
kept_drop f b l e = rw (marks_drop f b l e)

-- ---- listed

pub closed_one : (from at : ℕ) (r : List Stretch) → from < at → closed from at r ≡ record { first = from; size = at - from } ∷ r
unfolding closed
closed_one from at r o = rw (lt-ltb from at o)

pub closed_no : (from at : ℕ) (r : List Stretch) → at ≤ from → closed from at r ≡ r
unfolding closed
closed_no from at r o = rw (le-ltb from at o)

pub closed_none : (at : ℕ) (r : List Stretch) → closed at at r ≡ r
closed_none at r = closed_no at at r (omega arith)

pub closed_join : (from at : ℕ) (r : List Stretch) → closed from at r ≡ closed from at [] ++ r
unfolding closed
closed_join from at r = go (ltb from at)
  where
    go : (b : Bool) → cond b (record { first = from; size = at - from } ∷ r) r ≡ cond b (record { first = from; size = at - from } ∷ []) [] ++ r
    go true = refl
    go false = refl

pub stretches_trues : (n : ℕ) (from at : ℕ) (ms : List Bool)
    → stretches from at (replicate (suc n) true ++ ms) ≡ closed from at (stretches (suc n + at) (suc n + at) ms)
unfolding stretches
stretches_trues zero from at ms = let e : suc at ≡ 1 + at = omega arith in ap (λ (k : ℕ). closed from at (stretches k k ms)) e
stretches_trues (suc n) from at ms =
    let e : suc n + suc at ≡ suc (suc n) + at = omega arith in
    ap (closed from at) (stretches_trues n (suc at) (suc at) ms ∙ closed_none (suc at) _ ∙ ap (λ (k : ℕ). stretches k k ms) e)

pub dropped_keep : (f : Bool) (from at : ℕ) (l : List ℕ) → makes f l ≡ true
    → dropped_on f from at l ≡ closed from at (dropped_on false (at + 16) (at + 16) (drop 16 l))
dropped_keep f from at l e =
    let z : 16 + at ≡ at + 16 = omega arith in
    ap (stretches from at) (marks_keep f l e) ∙ stretches_trues 15 from at (marks false zero (drop 16 l))
    ∙ ap (λ (k : ℕ). closed from at (stretches k k (marks false zero (drop 16 l)))) z

pub dropped_drop : (f : Bool) (from at b : ℕ) (l : List ℕ) → makes f (b ∷ l) ≡ false → dropped_on f from at (b ∷ l) ≡ dropped_on false from (at + 1) l
unfolding stretches
dropped_drop f from at b l e = rw (marks_drop f b l e, add-one at)

-- ---- the list as numbers

pub cells_join : (x y : List Stretch) → cells (x ++ y) ≡ cells x ++ cells y
unfolding cells
cells_join [] y = refl
cells_join (x ∷ xs) y = ap (λ (l : List ℕ). x.first ∷ x.size ∷ l) (cells_join xs y)

pub cells_long : (x : List Stretch) → length (cells x) ≡ 2 * length x
unfolding cells
cells_long [] = refl
cells_long (x ∷ xs) = omega (arith, cells_long xs)

-- ---- buffers

-- what is written to a buffer's front stands there
pub fronted : (w s : List ℕ) → length w ≤ length s → Front (length w) w s (sets s 0 w)
fronted w s o =
    let z : 0 + length w ≡ length w = omega arith in
    let e : sets s 0 w ≡ w ++ drop (length w) s = rw z at (sets-eq w s 0 (omega arith)) in
    record {
      front = ap (take (length w)) e ∙ take_at w (drop (length w) s) (length w) refl;
      rest = ap (drop (length w)) e ∙ drop_at w (drop (length w) s) (length w) refl;
    }
