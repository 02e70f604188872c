-- Where a pass starts: behind a header that is kept at byte 0, or at the first byte, and then byte 0 is a place like any other. And a whole tape as one piece.
-- Assumes nothing.
use Prim.Native.Nat.{ℕ, zero, ◌+◌, ◌/◌, ◌%◌, ◌≤◌, ◌<◌}
use native.Mathlib.Omega.{arith}
use mathlib.Core.Path.{◌≡◌, refl, sym, ap, ◌∙◌}
use mathlib.Core.Bool.{Bool, true, false, cond, ◌&&◌}
use mathlib.Core.List.{List, [], ◌∷◌, ◌++◌}
use borrow.Author.Tests.{eqb-true, ne_eqb, le-leb, lt-leb}
use lib.Dec.{eqb, leb}
use lib.ListN.{length, take, drop, replicate, length-append}
use lib.Seq.{sets, length-take-le}
use Rattle.record.specs.Form.{is_header}
use Rattle.salvage_marks.specs.declared.Stretch.{Stretch}
use Rattle.salvage_marks.specs.Torn.{pick, headed, cells}
use Rattle.salvage_marks.specs.Pieces.{ahead, ended, begun}
use Rattle.salvage_marks.proofs.Marks.{both_true, and_false, makes_long, pick_trues, closed_none}
use Rattle.salvage_marks.proofs.Ahead.{ahead_keep, ended_trues, begun_trues, pick_few, few_cells}
use Rattle.salvage_marks.proofs.Reader.{headed_made, not_headed}
use Rattle.salvaging.specs.declared.Passed.{Passed}
use Rattle.salvaging.specs.Walk.{head_size, marked_at, passed_of, to_go, passed_on}
use Rattle.salvaging.specs.Lent.{sets_join}

-- ---- how long the header is

pub head_later : (place : ℕ) (buf : List ℕ) → (place ≡ 0 → ⊥) → 0 ≡ head_size place buf
unfolding head_size
head_later place buf n = rw (ne_eqb place 0 n)

pub head_short : (place : ℕ) (buf : List ℕ) → length buf < 16 → 0 ≡ head_size place buf
unfolding head_size headed
head_short place buf o = rw (lt-leb 16 (length buf) o, and_false (eqb place 0))

module _ (place : ℕ) (buf : List ℕ) (z : place ≡ 0) (o : 16 ≤ length buf) where
  pub head_there : true ≡ is_header (take 16 buf) → 16 ≡ head_size place buf
  unfolding head_size headed
  head_there e = rw (z, le-leb 16 (length buf) o, ← e)

  pub head_none : false ≡ is_header (take 16 buf) → 0 ≡ head_size place buf
  unfolding head_size headed
  head_none e = rw (z, le-leb 16 (length buf) o, ← e)

-- ---- the start of a pass

pub record Starts (place begin size : ℕ) (buf : List ℕ) : Type 0 where
  pub within : size ≤ length buf
  pub marks : length (marked_at place buf) ≡ size + length (to_go buf size)
  pub begins : begun begin place (marked_at place buf) ≡ begun (begin + size) (place + size) (to_go buf size)
  pub bytes : pick (marked_at place buf) buf ≡ take size buf ++ pick (to_go buf size) (drop size buf)
  pub stretches : ended begin place (marked_at place buf) ≡ ended (begin + size) (place + size) (to_go buf size)
  pub header : eqb size 16 ≡ (eqb place 0 && headed buf)

-- the same behind a header, which is one record long, or none
pub record HeaderStarts (place begin size : ℕ) (buf : List ℕ) : Type 0 where
  pub one : (size ≤ 16) × (size % 16 ≡ 0)
  pub starts : Starts place begin size buf

plain : (place : ℕ) (buf : List ℕ) → (eqb place 0 && headed buf) ≡ false → marked_at place buf ≡ ahead false zero buf
unfolding ahead
plain place [] e = refl
plain place (b ∷ l) e = go (eqb place 0) e
  where
    go : (z : Bool) → (z && headed (b ∷ l)) ≡ false → ahead z zero (b ∷ l) ≡ ahead false zero (b ∷ l)
    go true e = rw (not_headed (b ∷ l) e)
    go false e = refl

module _ (place begin : ℕ) (buf : List ℕ) (u : begin ≤ place) where
  behind_header : (eqb place 0 && headed buf) ≡ true → Starts place begin 16 buf
  behind_header e =
      let z : place ≡ 0 = eqb-true place 0 (both_true e).0 in
      let b : begin ≡ 0 = omega arith in
      let h = headed_made buf (both_true {x = eqb place 0} e).1 in
      let o : 16 ≤ length buf = makes_long true buf h.0 in
      let D : marked_at place buf ≡ replicate 16 true ++ to_go buf 16 = ap (λ (x : Bool). ahead x zero buf) (both_true e).0 ∙ ahead_keep true buf h.0 in
      record {
        within = o;
        marks = ap (λ (x : List Bool). length x) D ∙ length-append (replicate 16 true) (to_go buf 16);
        begins = ap (begun begin place) D ∙ rw (b, z) (begun_trues 15 0 0 (to_go buf 16));
        bytes = ap (λ (x : List Bool). pick x buf) D ∙ pick_trues 16 (to_go buf 16) buf o;
        stretches = ap (ended begin place) D ∙ rw (b, z) (ended_trues 15 0 0 (to_go buf 16) ∙ closed_none 0 _);
        header = sym e;
      }

  at_once : (eqb place 0 && headed buf) ≡ false → Starts place begin 0 buf
  at_once e =
      let D : marked_at place buf ≡ to_go buf 0 = plain place buf e in
      let x : begin + 0 ≡ begin = omega arith in
      let y : place + 0 ≡ place = omega arith in
      record {
        within = omega arith;
        marks = ap (λ (x : List Bool). length x) D ∙ omega arith;
        begins = rw (x, y) (ap (begun begin place) D);
        bytes = ap (λ (x : List Bool). pick x buf) D;
        stretches = rw (x, y) (ap (ended begin place) D);
        header = sym e;
      }

  pub header_starts : (size : ℕ) → size ≡ head_size place buf → HeaderStarts place begin size buf
  unfolding head_size
  header_starts size e = go (eqb place 0 && headed buf) refl e
    where
      go : (t : Bool) → (eqb place 0 && headed buf) ≡ t → size ≡ cond t 16 0 → HeaderStarts place begin size buf
      go true t e = rw e (record { one = (omega arith, refl); starts = behind_header t })
      go false t e = rw e (record { one = (omega arith, refl); starts = at_once t })

  pub starts : (size : ℕ) → size ≡ head_size place buf → Starts place begin size buf
  starts size e = (header_starts size e).starts

-- ---- what follows of it

same : {d f k c d' f' k' c' : ℕ} → d ≡ d' → f ≡ f' → k ≡ k' → c ≡ c'
    → ◌≡◌ {A = Passed} (record { done = d; from = f; kept = k; cells = c }) (record { done = d'; from = f'; kept = k'; cells = c' })
same a b c d = cc

module _ (place begin size : ℕ) (buf : List ℕ) (s : Starts place begin size buf) where
  pub start_passed : passed_on buf place size (begin + size) size 0 ≡ passed_of place begin buf
  unfolding passed_of
  start_passed =
      let n : length (pick (marked_at place buf) buf) ≡ size + length (pick (to_go buf size) (drop size buf)) =
      ap (λ (x : List ℕ). length x) s.bytes ∙ length-append (take size buf) _
      ∙ ap (λ (k : ℕ). k + length (pick (to_go buf size) (drop size buf))) (length-take-le size buf s.within) in
      let k : ℕ = length (cells (ended (begin + size) (place + size) (to_go buf size))) in
      let z : 0 + k ≡ k = omega arith in
      same (sym s.marks) (sym s.begins) (sym n) (z ∙ sym (ap (λ (x : List Stretch). length (cells x)) s.stretches))

  pub start_out : (out : List ℕ) → sets (sets out 0 (take size buf)) size (pick (to_go buf size) (drop size buf)) ≡ sets out 0 (pick (marked_at place buf) buf)
  start_out out =
      let n : 0 + length (take size buf) ≡ size = omega (arith, length-take-le size buf s.within) in
      sym (ap (sets out 0) s.bytes ∙ sets_join out 0 (take size buf) _
      ∙ ap (λ (k : ℕ). sets (sets out 0 (take size buf)) k (pick (to_go buf size) (drop size buf))) n)

-- ---- when it fits for sure

pub sure : (place begin : ℕ) (buf : List ℕ) (n m : ℕ) → length buf ≤ n → length buf / 8 ≤ m
    → true ≡ (leb (passed_of place begin buf).kept n && leb (passed_of place begin buf).cells m)
unfolding passed_of
sure place begin buf n m a b =
    let ms : List Bool = marked_at place buf in
    let w = pick_few ms buf in
    let c = few_cells (eqb place 0) zero buf (omega arith) begin place (λ z. absurd (omega arith)) in
    rw (le-leb (length (pick ms buf)) n (omega arith), le-leb (length (cells (ended begin place ms))) m (omega arith))
