-- Laws of what is decided of a tape's front: it is so whatever follows, fewer than 16 bytes are left, and the stretches that ended and the open one are those
-- of the whole tape. Turn by turn: a record that is kept makes sixteen marks, a byte that is dropped makes one. Assumes nothing.
use Prim.Native.Nat.{ℕ, zero, suc, ◌+◌, ◌-◌, ◌*◌, ◌≤◌, ◌<◌}
use native.Mathlib.Omega.{arith}
use mathlib.Core.Path.{◌≡◌, refl, sym, ap, ◌∙◌}
use mathlib.Core.Bool.{Bool, true, false, cond, ◌&&◌}
use mathlib.Core.List.{List, [], ◌∷◌, ◌++◌, append_assoc}
use borrow.Author.Tests.{le-leb, lt-leb, leb-true, leb-false, ne_eqb}
use lib.Dec.{leb, ltb, eqb}
use lib.ListN.{length, drop, replicate}
use Rattle.salvage_marks.specs.declared.Stretch.{Stretch}
use Rattle.salvage_marks.specs.Torn.{makes, marks, pick, closed, stretches, cells}
use Rattle.salvage_marks.specs.Pieces.{ahead, ended, begun}
use Rattle.salvage_marks.proofs.Marks.{and_false, makes_long, makes_extend, makes_short, closed_none, closed_no, closed_join}

-- ---- turns

ahead_k : (f : Bool) (k : ℕ) (l : List ℕ) → suc k ≤ length l → ahead f (suc k) l ≡ replicate (suc k) true ++ ahead false zero (drop (suc k) l)
unfolding ahead
ahead_k f k [] o = absurd (omega arith)
ahead_k f zero (b ∷ l) o = refl
ahead_k f (suc k) (b ∷ l) o = ap (λ (m : List Bool). true ∷ m) (ahead_k false k l (omega arith))

ahead_keep_on : (f : Bool) (l : List ℕ) → makes f l ≡ true → 16 ≤ length l → ahead f zero l ≡ replicate 16 true ++ ahead false zero (drop 16 l)
unfolding ahead
ahead_keep_on f [] e o = absurd (omega arith)
ahead_keep_on f (b ∷ l) e o = rw (le-leb 16 (length (b ∷ l)) o, e) (ap (λ (m : List Bool). true ∷ m) (ahead_k false 14 l (omega arith)))

pub ahead_keep : (f : Bool) (l : List ℕ) → makes f l ≡ true → ahead f zero l ≡ replicate 16 true ++ ahead false zero (drop 16 l)
ahead_keep f l e = ahead_keep_on f l e (makes_long f l e)

pub ahead_drop : (f : Bool) (b : ℕ) (l : List ℕ) → makes f (b ∷ l) ≡ false → 16 ≤ length (b ∷ l) → ahead f zero (b ∷ l) ≡ false ∷ ahead false zero l
unfolding ahead
ahead_drop f b l e o = rw (le-leb 16 (length (b ∷ l)) o, e)

pub ahead_short : (f : Bool) (l : List ℕ) → length l ≤ 15 → ahead f zero l ≡ []
unfolding ahead
ahead_short f [] o = refl
ahead_short f (b ∷ l) o = rw (lt-leb 16 (length (b ∷ l)) (omega arith))

pub ended_trues : (n from at : ℕ) (ms : List Bool) → ended from at (replicate (suc n) true ++ ms) ≡ closed from at (ended (suc n + at) (suc n + at) ms)
unfolding ended
ended_trues zero from at ms = let e : suc at ≡ 1 + at = omega arith in ap (λ (k : ℕ). closed from at (ended k k ms)) e
ended_trues (suc n) from at ms =
    let e : suc n + suc at ≡ suc (suc n) + at = omega arith in
    ap (closed from at) (ended_trues n (suc at) (suc at) ms ∙ closed_none (suc at) _ ∙ ap (λ (k : ℕ). ended k k ms) e)

pub begun_trues : (n from at : ℕ) (ms : List Bool) → begun from at (replicate (suc n) true ++ ms) ≡ begun (suc n + at) (suc n + at) ms
unfolding begun
begun_trues zero from at ms = let e : suc at ≡ 1 + at = omega arith in ap (λ (k : ℕ). begun k k ms) e
begun_trues (suc n) from at ms =
    let e : suc n + suc at ≡ suc (suc n) + at = omega arith in
    begun_trues n (suc at) (suc at) ms ∙ ap (λ (k : ℕ). begun k k ms) e

-- ---- whatever follows

and_true : (f : Bool) → (f && true) ≡ f
and_true true = refl
and_true false = refl

-- the marks of a front, and then those of what is left of it with what follows
abbrev Goes : Bool → List Bool → List ℕ → List ℕ → List Bool
Goes f ms l r = ms ++ marks (f && eqb (length ms) 0) zero (drop (length ms) l ++ r)

goes_on : (f x : Bool) (ms : List Bool) (b : ℕ) (l r : List ℕ) → x ∷ Goes false ms l r ≡ Goes f (x ∷ ms) (b ∷ l) r
goes_on f x ms b l r = let z : eqb (suc (length ms)) 0 ≡ false = ne_eqb (suc (length ms)) 0 (λ e. omega arith) in rw (z, and_false f)

pub marks_ahead : (f : Bool) (k : ℕ) (l r : List ℕ) → k ≤ length l → marks f k (l ++ r) ≡ Goes f (ahead f k l) l r
unfolding ahead marks
marks_ahead f zero [] r o = rw (and_true f)
marks_ahead f (suc k) [] r o = absurd (omega arith)
marks_ahead f (suc k) (b ∷ l) r o = ap (λ (m : List Bool). true ∷ m) (marks_ahead false k l r (omega arith)) ∙ goes_on f true (ahead false k l) b l r
marks_ahead f zero (b ∷ l) r o =
    go (leb 16 (length (b ∷ l))) refl (makes f (b ∷ l)) refl (λ h. marks_ahead false 15 l r h) (marks_ahead false zero l r (omega arith))
  where
    go : (n : Bool) → leb 16 (length (b ∷ l)) ≡ n → (t : Bool) → makes f (b ∷ l) ≡ t
        → (15 ≤ length l → marks false 15 (l ++ r) ≡ Goes false (ahead false 15 l) l r) → marks false zero (l ++ r) ≡ Goes false (ahead false zero l) l r
        → cond {A = List Bool} (makes f (b ∷ (l ++ r))) (true ∷ marks false 15 (l ++ r)) (false ∷ marks false zero (l ++ r))
        ≡ Goes f (cond {A = List Bool} n (cond {A = List Bool} t (true ∷ ahead false 15 l) (false ∷ ahead false zero l)) []) (b ∷ l) r
    go true en true et x y =
        let h : 16 ≤ length (b ∷ l) = leb-true 16 (length (b ∷ l)) en in
        rw (makes_extend f (b ∷ l) r h, et) (ap (λ (m : List Bool). true ∷ m) (x (omega arith)) ∙ goes_on f true (ahead false 15 l) b l r)
    go true en false et x y =
        let h : 16 ≤ length (b ∷ l) = leb-true 16 (length (b ∷ l)) en in
        rw (makes_extend f (b ∷ l) r h, et) (ap (λ (m : List Bool). false ∷ m) y ∙ goes_on f false (ahead false zero l) b l r)
    go false en t et x y = rw (and_true f)

-- fewer than 16 bytes are left
pub rest_short : (f : Bool) (k : ℕ) (l : List ℕ) → length (drop (length (ahead f k l)) l) ≤ 15
unfolding ahead
rest_short f k [] = omega arith
rest_short f (suc k) (b ∷ l) = rest_short false k l
rest_short f zero (b ∷ l) = go (leb 16 (length (b ∷ l))) refl (makes f (b ∷ l)) (rest_short false 15 l) (rest_short false zero l)
  where
    go : (n : Bool) → leb 16 (length (b ∷ l)) ≡ n → (t : Bool) → length (drop (length (ahead false 15 l)) l) ≤ 15
        → length (drop (length (ahead false zero l)) l) ≤ 15
        → length (drop (length (cond {A = List Bool} n (cond {A = List Bool} t (true ∷ ahead false 15 l) (false ∷ ahead false zero l)) [])) (b ∷ l)) ≤ 15
    go true e true x y = x
    go true e false x y = y
    go false e t x y = let h : length (b ∷ l) < 16 = leb-false 16 (length (b ∷ l)) e in omega arith

pub ahead_few : (f : Bool) (k : ℕ) (l : List ℕ) → k ≤ length l → length (ahead f k l) ≤ length l
unfolding ahead
ahead_few f k [] o = omega arith
ahead_few f (suc k) (b ∷ l) o = omega (arith, ahead_few false k l (omega arith))
ahead_few f zero (b ∷ l) o =
    go (leb 16 (length (b ∷ l))) refl (makes f (b ∷ l)) (λ h. ahead_few false 15 l h) (ahead_few false zero l (omega arith))
  where
    go : (n : Bool) → leb 16 (length (b ∷ l)) ≡ n → (t : Bool) → (15 ≤ length l → length (ahead false 15 l) ≤ length l)
        → length (ahead false zero l) ≤ length l
        → length (cond {A = List Bool} n (cond {A = List Bool} t (true ∷ ahead false 15 l) (false ∷ ahead false zero l)) []) ≤ suc (length l)
    go true e true x y = let h : 16 ≤ length (b ∷ l) = leb-true 16 (length (b ∷ l)) e in omega (arith, x (omega arith))
    go true e false x y = omega arith
    go false e t x y = omega arith

-- ---- picked and listed in two parts

pub pick_join : (ms ns : List Bool) (l r : List ℕ) → length ms ≤ length l → pick (ms ++ ns) (l ++ r) ≡ pick ms l ++ pick ns (drop (length ms) l ++ r)
unfolding pick
pick_join [] ns l r o = refl
pick_join (m ∷ ms) ns [] r o = absurd (omega arith)
pick_join (true ∷ ms) ns (b ∷ l) r o = ap (λ (x : List ℕ). b ∷ x) (pick_join ms ns l r (omega arith))
pick_join (false ∷ ms) ns (b ∷ l) r o = pick_join ms ns l r (omega arith)

pub stretches_join : (from at : ℕ) (ms ns : List Bool)
    → stretches from at (ms ++ ns) ≡ ended from at ms ++ stretches (begun from at ms) (at + length ms) ns
unfolding stretches ended begun
stretches_join from at [] ns = let z : at + 0 ≡ at = omega arith in rw z
stretches_join from at (true ∷ ms) ns =
    let z : suc at + length ms ≡ at + suc (length ms) = omega arith in
    let e : List Stretch = ended (suc at) (suc at) ms in
    let o : List Stretch = stretches (begun (suc at) (suc at) ms) (at + suc (length ms)) ns in
    ap (closed from at) (stretches_join (suc at) (suc at) ms ns ∙ ap (λ (k : ℕ). e ++ stretches (begun (suc at) (suc at) ms) k ns) z)
    ∙ closed_join from at (e ++ o) ∙ sym (append_assoc (closed from at []) e o) ∙ ap (λ (x : List Stretch). x ++ o) (sym (closed_join from at e))
stretches_join from at (false ∷ ms) ns =
    let z : suc at + length ms ≡ at + suc (length ms) = omega arith in
    stretches_join from (suc at) ms ns ∙ ap (λ (k : ℕ). ended from (suc at) ms ++ stretches (begun from (suc at) ms) k ns) z

-- the open stretch begins where bytes were seen
pub begun_before : (from at : ℕ) (ms : List Bool) → from ≤ at → begun from at ms ≤ at + length ms
unfolding begun
begun_before from at [] o = omega arith
begun_before from at (true ∷ ms) o = omega (arith, begun_before (suc at) (suc at) ms (omega arith))
begun_before from at (false ∷ ms) o = omega (arith, begun_before from (suc at) ms (omega arith))

-- ---- a short end

pub short_marks : (f : Bool) (l : List ℕ) → length l ≤ 15 → marks f zero l ≡ replicate (length l) false
unfolding marks
short_marks f [] o = refl
short_marks f (b ∷ l) o = rw (makes_short f (b ∷ l) (omega arith)) (ap (λ (m : List Bool). false ∷ m) (short_marks false l (omega arith)))

pub pick_none : (l : List ℕ) → pick (replicate (length l) false) l ≡ []
unfolding pick
pick_none [] = refl
pick_none (b ∷ l) = pick_none l

pub one_stretch : (n from at : ℕ) → stretches from at (replicate n false) ≡ closed from (at + n) []
unfolding stretches
one_stretch zero from at = let z : at + 0 ≡ at = omega arith in rw z
one_stretch (suc n) from at = let z : suc at + n ≡ at + suc n = omega arith in one_stretch n from (suc at) ∙ ap (λ (k : ℕ). closed from k []) z

-- ---- how much is written and listed

pub pick_few : (ms : List Bool) (l : List ℕ) → length (pick ms l) ≤ length l
unfolding pick
pick_few [] l = omega arith
pick_few (m ∷ ms) [] = omega arith
pick_few (true ∷ ms) (b ∷ l) = omega (arith, pick_few ms l)
pick_few (false ∷ ms) (b ∷ l) = omega (arith, pick_few ms l)

pub closed_cells : (from at : ℕ) (r : List Stretch) → length (cells (closed from at r)) ≤ 2 + length (cells r)
unfolding closed cells
closed_cells from at r = go (ltb from at)
  where
    go : (b : Bool) → length (cells (cond {A = List Stretch} b (record { first = from; size = at - from } ∷ r) r)) ≤ 2 + length (cells r)
    go true = omega arith
    go false = omega arith

-- two numbers for 16 bytes that are kept: a stretch ends at a record
pub few_cells : (f : Bool) (k : ℕ) (l : List ℕ) → k ≤ length l → (from at : ℕ) → (0 < k → at ≤ from)
    → 8 * length (cells (ended from at (ahead f k l))) + k ≤ length (pick (ahead f k l) l)
unfolding ahead ended pick cells
few_cells f zero [] o from at h = omega arith
few_cells f (suc k) [] o from at h = absurd (omega arith)
few_cells f (suc k) (b ∷ l) o from at h =
    rw (closed_no from at (ended (suc at) (suc at) (ahead false k l)) (h (omega arith)))
    (omega (arith, few_cells false k l (omega arith) (suc at) (suc at) (λ x. omega arith)))
few_cells f zero (b ∷ l) o from at h =
    go (leb 16 (length (b ∷ l))) refl (makes f (b ∷ l)) (λ x. few_cells false 15 l x (suc at) (suc at) (λ y. omega arith))
    (few_cells false zero l (omega arith) from (suc at) (λ y. absurd (omega arith)))
  where
    go : (n : Bool) → leb 16 (length (b ∷ l)) ≡ n → (t : Bool)
        → (15 ≤ length l → 8 * length (cells (ended (suc at) (suc at) (ahead false 15 l))) + 15 ≤ length (pick (ahead false 15 l) l))
        → 8 * length (cells (ended from (suc at) (ahead false zero l))) + 0 ≤ length (pick (ahead false zero l) l)
        → 8 * length (cells (ended from at (cond {A = List Bool} n (cond {A = List Bool} t (true ∷ ahead false 15 l) (false ∷ ahead false zero l)) []))) + 0
        ≤ length (pick (cond {A = List Bool} n (cond {A = List Bool} t (true ∷ ahead false 15 l) (false ∷ ahead false zero l)) []) (b ∷ l))
    go true e true x y =
        let v : 16 ≤ length (b ∷ l) = leb-true 16 (length (b ∷ l)) e in
        let z = closed_cells from at (ended (suc at) (suc at) (ahead false 15 l)) in
        omega (arith, x (omega arith))
    go true e false x y = y
    go false e t x y = omega arith
