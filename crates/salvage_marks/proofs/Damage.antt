-- Damage that loses no record: junk between two records, before the first or behind the last, in which no record begins; whole records cut out; and that at
-- any number of places. By the marks: those of whole records are what they were, and those of bytes in which no record begins are all false. Assumes nothing.
use Prim.Native.Nat.{ℕ, zero, suc, ◌+◌, ◌≤◌, ◌<◌}
use native.Mathlib.Omega.{arith}
use mathlib.Core.Path.{◌≡◌, refl, ap, ◌∙◌}
use mathlib.Core.Bool.{Bool, true, false, cond}
use mathlib.Core.List.{List, [], ◌∷◌, ◌++◌, append-nil}
use borrow.Author.Tests.{le-leb, ne_eqb}
use lib.Dec.{leb, eqb}
use lib.ListN.{length, replicate, length-replicate}
use lib.Seq.{drop-length}
use Rattle.salvage_marks.specs.Torn.{makes, marks, pick, closed, stretches, kept, dropped, headed}
use Rattle.salvage_marks.specs.Pieces.{ahead}
use Rattle.salvage_marks.specs.Words.{Whole}
use Rattle.salvage_marks.specs.Damage.{Clear, Gap, torn_at, saved, gaps, LosesNone}
use Rattle.salvage_marks.proofs.Marks.{and_false, makes_long, makes_short, closed_none, stretches_trues}
use Rattle.salvage_marks.proofs.Ahead.{marks_ahead}
use Rattle.salvage_marks.proofs.Reader.{same_marks}

-- ---- marks

others : {x y : Bool} {l m : List Bool} → x ∷ l ≡ y ∷ m → l ≡ m
others e = cc

-- a whole front is decided
ahead_whole : (f : Bool) (k : ℕ) (l : List ℕ) → marks f k l ≡ replicate (length l) true → ahead f k l ≡ replicate (length l) true
unfolding marks ahead
ahead_whole f k [] e = refl
ahead_whole f (suc k) (b ∷ l) e = ap (λ (m : List Bool). true ∷ m) (ahead_whole false k l (others e))
ahead_whole f zero (b ∷ l) e = go (makes f (b ∷ l)) refl e (λ h. ahead_whole false 15 l h)
  where
    go : (t : Bool) → makes f (b ∷ l) ≡ t → cond {A = List Bool} t (true ∷ marks false 15 l) (false ∷ marks false zero l) ≡ true ∷ replicate (length l) true
        → (marks false 15 l ≡ replicate (length l) true → ahead false 15 l ≡ replicate (length l) true)
        → cond {A = List Bool} (leb 16 (length (b ∷ l))) (cond {A = List Bool} (makes f (b ∷ l)) (true ∷ ahead false 15 l) (false ∷ ahead false zero l)) []
        ≡ true ∷ replicate (length l) true
    go true m e ih = rw (le-leb 16 (length (b ∷ l)) (makes_long f (b ∷ l) m), m) (ap (λ (x : List Bool). true ∷ x) (ih (others e)))
    go false m e ih = let z : ◌≡◌ {A = ℕ} 0 1 = cc in absurd (omega arith)

-- whole records stay whole, whatever follows
marks_whole : (f : Bool) (a r : List ℕ) → 0 < length a → Whole f a → marks f zero (a ++ r) ≡ replicate (length a) true ++ marks false zero r
marks_whole f a r o w =
    let e : ahead f zero a ≡ replicate (length a) true = ahead_whole f zero a w in
    let n : length (ahead f zero a) ≡ length a = ap (λ (x : List Bool). length x) e ∙ length-replicate (length a) true in
    let z : eqb (length a) 0 ≡ false = ne_eqb (length a) 0 (λ q. omega arith) in
    marks_ahead f zero a r (omega arith) ∙ rw (n, z, and_false f, drop-length a, e)

marks_clear : (x r : List ℕ) → Clear x r → marks false zero (x ++ r) ≡ replicate (length x) false ++ marks false zero r
unfolding marks
marks_clear [] r c = refl
marks_clear (b ∷ x) r c = rw c.0 (ap (λ (m : List Bool). false ∷ m) (marks_clear x r c.1))

-- fewer than 16 bytes at the end are clear
pub short_clear : (x : List ℕ) → length x ≤ 15 → Clear x []
short_clear [] o = tt
short_clear (b ∷ x) o = (makes_short false (b ∷ (x ++ [])) (rw (append-nil x) (omega arith)), short_clear x (omega arith))

-- ---- picked and listed

pick_front : (ms : List Bool) (a r : List ℕ) → pick (replicate (length a) true ++ ms) (a ++ r) ≡ a ++ pick ms r
unfolding pick
pick_front ms [] r = refl
pick_front ms (b ∷ a) r = ap (λ (l : List ℕ). b ∷ l) (pick_front ms a r)

pick_clear : (ms : List Bool) (x r : List ℕ) → pick (replicate (length x) false ++ ms) (x ++ r) ≡ pick ms r
unfolding pick
pick_clear ms [] r = refl
pick_clear ms (b ∷ x) r = pick_clear ms x r

stretches_falses : (n from at : ℕ) (ms : List Bool) → stretches from at (replicate n false ++ ms) ≡ stretches from (at + n) ms
unfolding stretches
stretches_falses zero from at ms = let z : at + 0 ≡ at = omega arith in rw z
stretches_falses (suc n) from at ms =
    let z : suc at + n ≡ at + suc n = omega arith in
    stretches_falses n from (suc at) ms ∙ ap (λ (k : ℕ). stretches from k ms) z

stretches_whole : (n from at : ℕ) (ms : List Bool) → 0 < n → stretches from at (replicate n true ++ ms) ≡ closed from at (stretches (at + n) (at + n) ms)
stretches_whole zero from at ms o = absurd (omega arith)
stretches_whole (suc n) from at ms o =
    let z : suc n + at ≡ at + suc n = omega arith in
    stretches_trues n from at ms ∙ ap (λ (k : ℕ). closed from at (stretches k k ms)) z

-- ---- gap by gap

gap_marks : (g : Gap) (r : List ℕ) → 0 < length g.records → Whole false g.records → Clear g.junk (g.records ++ r)
    → marks false zero (g.junk ++ (g.records ++ r))
    ≡ replicate (length g.junk) false ++ (replicate (length g.records) true ++ marks false zero r)
gap_marks g r o w c =
    marks_clear g.junk (g.records ++ r) c
    ∙ ap (λ (m : List Bool). replicate (length g.junk) false ++ m) (marks_whole false g.records r o w)

pub gaps_kept : (gs : List Gap) (end : List ℕ) → LosesNone gs end → pick (marks false zero (torn_at gs end)) (torn_at gs end) ≡ saved gs
unfolding marks pick
gaps_kept [] end n =
    let e : marks false zero end ≡ replicate (length end) false ++ [] = rw (append-nil end) at (marks_clear end [] n) in
    ap (λ (m : List Bool). pick m end) e ∙ (rw (append-nil end) at (pick_clear [] end []))
gaps_kept (g ∷ gs) end n =
    let r : List ℕ = torn_at gs end in
    ap (λ (m : List Bool). pick m (g.junk ++ (g.records ++ r))) (gap_marks g r n.0 n.1 n.2)
    ∙ pick_clear (replicate (length g.records) true ++ marks false zero r) g.junk (g.records ++ r) ∙ pick_front (marks false zero r) g.records r
    ∙ ap (λ (l : List ℕ). g.records ++ l) (gaps_kept gs end n.3)

pub gaps_dropped : (at : ℕ) (gs : List Gap) (end : List ℕ) → LosesNone gs end → stretches at at (marks false zero (torn_at gs end)) ≡ gaps at gs end
unfolding marks stretches
gaps_dropped at [] end n =
    let e : marks false zero end ≡ replicate (length end) false ++ [] = rw (append-nil end) at (marks_clear end [] n) in
    ap (stretches at at) e ∙ stretches_falses (length end) at at []
gaps_dropped at (g ∷ gs) end n =
    let r : List ℕ = torn_at gs end in
    ap (stretches at at) (gap_marks g r n.0 n.1 n.2)
    ∙ stretches_falses (length g.junk) at at (replicate (length g.records) true ++ marks false zero r)
    ∙ stretches_whole (length g.records) at (at + length g.junk) (marks false zero r) n.0
    ∙ ap (closed at (at + length g.junk)) (gaps_dropped (at + length g.junk + length g.records) gs end n.3)

module _ (a : List ℕ) (gs : List Gap) (end : List ℕ) (o : 0 < length a) (w : Whole true a) (n : LosesNone gs end) where
  pub none_lost : kept (a ++ torn_at gs end) ≡ a ++ saved gs
  unfolding kept
  none_lost =
      ap (λ (m : List Bool). pick m (a ++ torn_at gs end)) (marks_whole true a (torn_at gs end) o w)
      ∙ pick_front (marks false zero (torn_at gs end)) a (torn_at gs end)
      ∙ ap (λ (l : List ℕ). a ++ l) (gaps_kept gs end n)

  pub all_listed : dropped (a ++ torn_at gs end) ≡ gaps (length a) gs end
  unfolding dropped
  all_listed =
      let z : 0 + length a ≡ length a = omega arith in
      ap (stretches 0 0) (marks_whole true a (torn_at gs end) o w) ∙ stretches_whole (length a) 0 0 (marks false zero (torn_at gs end)) o ∙ closed_none 0 _
      ∙ rw z (gaps_dropped (length a) gs end n)

-- a tape that begins with a gap: byte 0 is then a place like any other
module _ (gs : List Gap) (end : List ℕ) (n : LosesNone gs end) (h : headed (torn_at gs end) ≡ false) where
  pub front_kept : kept (torn_at gs end) ≡ saved gs
  unfolding kept
  front_kept = ap (λ (m : List Bool). pick m (torn_at gs end)) (same_marks (torn_at gs end) h) ∙ gaps_kept gs end n

  pub front_listed : dropped (torn_at gs end) ≡ gaps 0 gs end
  unfolding dropped
  front_listed = ap (stretches 0 0) (same_marks (torn_at gs end) h) ∙ gaps_dropped 0 gs end n
