-- A salvage in pieces is the salvage of the whole tape, whatever the pieces: by induction on the chain of answers. What each answer leaves to come is the
-- rest of the whole tape's marks. Assumes nothing.
use Prim.Native.Nat.{ℕ, zero, suc, ◌+◌, ◌-◌, ◌*◌, ◌≤◌, ◌<◌}
use native.Mathlib.Omega.{arith}
use mathlib.Core.Path.{◌≡◌, refl, sym, ap, ◌∙◌}
use mathlib.Core.Bool.{Bool, true, false, cond, ◌&&◌, ◌||◌}
use mathlib.Core.List.{List, [], ◌∷◌, ◌++◌, append_assoc, append-nil}
use borrow.Author.Tests.{leb-true, leb-false, le-leb, lt-leb, ne_eqb}
use lib.Dec.{leb, ltb, eqb}
use lib.ListN.{length, drop, length-append, length-drop}
use lib.Seq.{sets, take-append-le}
use Rattle.std.specs.Prelude.{Option, Some, None, option_to_list, Result, Ok, Err}
use Rattle.rules.specs.declared.Refusal.{Refusal}
use Rattle.rules.specs.declared.Refusal.TheVariants.{Room}
use Rattle.salvage_marks.specs.declared.Stretch.{Stretch}
use Rattle.salvage_marks.specs.declared.Torn.{Torn}
use Rattle.salvage_marks.specs.declared.Fed.{Fed}
use Rattle.salvage_marks.specs.Torn.{marks, pick, closed, stretches, kept_on, dropped_on, kept, dropped, headed, cells}
use Rattle.salvage_marks.specs.Pieces.{ended, begun, at_first, last_place, opened, decided, written, listed, after, held}
use Rattle.salvage_marks.specs.Pieces.{fed_fits, fed_of, FedTo, ends_at, stretch_of, last_of, Chain}
use Rattle.rules.specs.Line.{joined}
use Rattle.salvage_marks.specs.Pieces.Chain.{end, feed}
use Rattle.salvage_marks.specs.Words.{Front}
use Rattle.salvage_marks.proofs.Marks.{both_true, cells_join, fronted}
use Rattle.salvage_marks.proofs.Ahead.{marks_ahead, ahead_short, rest_short, ahead_few, pick_join, stretches_join, begun_before}
use Rattle.salvage_marks.proofs.Ahead.{short_marks, pick_none, one_stretch, pick_few, few_cells}

place_zero : (a n : ℕ) → (eqb a 0 && eqb n 0) ≡ eqb (a + n) 0
place_zero zero zero = refl
place_zero zero (suc n) =
    let z : eqb (0 + suc n) 0 ≡ false = ne_eqb (0 + suc n) 0 (λ e. omega arith) in
    let y : eqb (suc n) 0 ≡ false = ne_eqb (suc n) 0 (λ e. omega arith) in
    rw (z, y)
place_zero (suc a) n =
    let z : eqb (suc a + n) 0 ≡ false = ne_eqb (suc a + n) 0 (λ e. omega arith) in
    let y : eqb (suc a) 0 ≡ false = ne_eqb (suc a) 0 (λ e. omega arith) in
    rw (z, y)

-- ---- one piece

-- a piece, buf with the held bytes, and what comes behind it
module _ (t : Torn) (buf r : List ℕ) where
  marks_piece : marks (eqb t.place 0) zero (buf ++ r) ≡ decided t buf ++ marks (eqb (after t buf).place 0) zero (held t buf ++ r)
  unfolding after held
  marks_piece = rw (← place_zero t.place (length (decided t buf))) (marks_ahead (eqb t.place 0) zero buf r (omega arith))

  piece_written : kept_on (eqb t.place 0) (buf ++ r) ≡ written t buf ++ kept_on (eqb (after t buf).place 0) (held t buf ++ r)
  unfolding written held
  piece_written =
      ap (λ (m : List Bool). pick m (buf ++ r)) marks_piece
      ∙ pick_join (decided t buf) _ buf r (ahead_few (eqb t.place 0) zero buf (omega arith))

  after_opened : opened (after t buf) ≡ begun (opened t) t.place (decided t buf)
  unfolding after
  after_opened = omega (arith, begun_before (opened t) t.place (decided t buf) (omega arith))

  piece_listed : dropped_on (eqb t.place 0) (opened t) t.place (buf ++ r)
      ≡ listed t buf ++ dropped_on (eqb (after t buf).place 0) (opened (after t buf)) (after t buf).place (held t buf ++ r)
  unfolding listed after
  piece_listed =
      ap (stretches (opened t) t.place) marks_piece ∙ stretches_join (opened t) t.place (decided t buf) _
      ∙ rw after_opened refl

-- a header stands in what was seen, or it is still open whether one does
headed_front : (l r : List ℕ) → 16 ≤ length l → headed (l ++ r) ≡ headed l
unfolding headed
headed_front l r o =
    let k : 16 ≤ length (l ++ r) = omega (arith, length-append l r) in
    rw (le-leb 16 (length (l ++ r)) k, le-leb 16 (length l) o, take-append-le 16 l r o)

headed_short : (l : List ℕ) → length l < 16 → headed l ≡ false
unfolding headed
headed_short l o = rw (lt-leb 16 (length l) o)

piece_headed : (t : Torn) (buf r : List ℕ)
    → (t.headed || (eqb t.place 0 && headed (buf ++ r))) ≡ ((after t buf).headed || (eqb (after t buf).place 0 && headed (held t buf ++ r)))
unfolding after held
piece_headed t buf r = go (leb 16 (length buf)) refl
  where
    d : ℕ
    d = length (decided t buf)

    late : (z h x y : Bool) → z ≡ false → (h || (x && y)) ≡ ((h || (x && y)) || (z && headed (drop d buf ++ r)))
    late z true true true e = refl
    late z true true false e = refl
    late z true false y e = refl
    late z false true true e = refl
    late z false true false e = rw e
    late z false false y e = rw e

    early : (h x y : Bool) → (h || (x && y)) ≡ ((h || (x && false)) || (x && y))
    early true x y = refl
    early false true y = refl
    early false false y = refl

    go : (b : Bool) → leb 16 (length buf) ≡ b
        → (t.headed || (eqb t.place 0 && headed (buf ++ r)))
        ≡ ((t.headed || (eqb t.place 0 && headed buf)) || (eqb (t.place + d) 0 && headed (drop d buf ++ r)))
    go true e =
        let o : 16 ≤ length buf = leb-true 16 (length buf) e in
        let n : d ≡ 0 → ⊥ = λ q. omega (arith, rest_short (eqb t.place 0) zero buf, length-drop d buf) in
        rw (headed_front buf r o) (late (eqb (t.place + d) 0) t.headed (eqb t.place 0) (headed buf) (ne_eqb (t.place + d) 0 (λ q. n (omega arith))))
    go false e =
        let o : length buf < 16 = leb-false 16 (length buf) e in
        let z : d ≡ 0 = ap (λ (m : List Bool). length m) (ahead_short (eqb t.place 0) buf (omega arith)) in
        let y : t.place + 0 ≡ t.place = omega arith in
        rw (z, y, headed_short buf o) (early t.headed (eqb t.place 0) (headed (buf ++ r)))

-- ---- what an answer says

pub record Fits (t : Torn) (buf : List ℕ) (n m : ℕ) : Type 0 where
  pub place : t.place + length buf ≤ last_place
  pub bytes : length (written t buf) ≤ n
  pub numbers : length (cells (listed t buf)) ≤ m

pub fits_so : (t : Torn) (buf : List ℕ) (n m : ℕ) → fed_fits t buf n m ≡ true → Fits t buf n m
unfolding fed_fits
fits_so t buf n m e =
    let a = both_true e in
    let b = both_true a.0 in
    record {
      place = leb-true (t.place + length buf) last_place b.0;
      bytes = leb-true (length (written t buf)) n b.1;
      numbers = leb-true (length (cells (listed t buf))) m a.1;
    }

pub record Took (t : Torn) (buf out list : List ℕ) (r : Fed) (out' list' : List ℕ) : Type 0 where
  pub place : t.place + length buf ≤ last_place
  pub torn : r.torn ≡ after t buf
  pub done : r.done ≡ length (decided t buf)
  pub bytes : Front r.kept (written t buf) out out'
  pub numbers : Front r.cells (cells (listed t buf)) list list'

-- the answer of a piece that fits
abbrev pub so_fed : Torn → List ℕ → Fed
so_fed t buf =
    record {
      torn = after t buf;
      done = length (decided t buf);
      kept = length (written t buf);
      cells = length (cells (listed t buf));
    }

pub took : (t : Torn) (buf out list out' list' : List ℕ) (r : Fed) → FedTo t buf out list (Ok r) out' list' → Took t buf out list r out' list'
unfolding fed_of
took t buf out list out' list' r f = go (fed_fits t buf (length out) (length list)) refl f
  where
    go : (b : Bool) → fed_fits t buf (length out) (length list) ≡ b
        → (Ok r ≡ cond {A = Result Fed Refusal} b (Ok (so_fed t buf)) (Err Room))
        × (out' ≡ cond {A = List ℕ} b (sets out 0 (written t buf)) out) × (list' ≡ cond {A = List ℕ} b (sets list 0 (cells (listed t buf))) list)
        → Took t buf out list r out' list'
    go true e (x, y, v) =
        let k = fits_so t buf (length out) (length list) e in
        let q : r ≡ so_fed t buf = cc in
        record {
          place = k.place;
          torn = rw q;
          done = rw q;
          bytes = rw (q, y) (fronted (written t buf) out k.bytes);
          numbers = rw (q, v) (fronted (cells (listed t buf)) list k.numbers);
        }
    go false e (x, y, v) = cc

-- ---- what is held

held_is : (t : Torn) (buf : List ℕ) (n : ℕ) → n ≡ length (decided t buf) → drop n buf ≡ held t buf
unfolding held
held_is t buf n e = rw e

held_short : (t : Torn) (buf : List ℕ) → length (held t buf) ≤ 15
unfolding held
held_short t buf = rest_short (eqb t.place 0) zero buf

held_place : (t : Torn) (buf : List ℕ) → t.place + length buf ≤ last_place → (after t buf).place + length (held t buf) ≤ last_place
unfolding after held
held_place t buf o = omega (arith, length-drop (length (decided t buf)) buf, ahead_few (eqb t.place 0) zero buf (omega arith))

after_place : (s : List ℕ) → (after at_first s).place + length (held at_first s) ≡ length s
unfolding after held
after_place s = omega (arith, length-drop (length (decided at_first s)) s, ahead_few true zero s (omega arith))

after_from : (s : List ℕ) → opened (after at_first s) ≡ (after at_first s).from
unfolding after
after_from s = after_opened at_first s []

-- ---- a whole tape as one piece

pub one_kept : (s : List ℕ) → kept s ≡ written at_first s
unfolding kept
one_kept s =
    let l : List ℕ = held at_first s in
    let first : Bool = eqb (after at_first s).place 0 in
    let k : kept_on first (l ++ []) ≡ [] = rw (append-nil l, short_marks first l (held_short at_first s)) (pick_none l) in
    rw (append-nil s, k, append-nil (written at_first s)) at (piece_written at_first s [])

pub one_dropped : (s : List ℕ) → dropped s ≡ listed at_first s ++ closed (after at_first s).from (length s) []
unfolding dropped
one_dropped s =
    let a : Torn = after at_first s in
    let l : List ℕ = held at_first s in
    let e : opened a ≡ a.from = after_from s in
    let n : a.place + length l ≡ length s = after_place s in
    let k : dropped_on (eqb a.place 0) (opened a) a.place (l ++ []) ≡ closed a.from (length s) [] =
    rw (append-nil l, short_marks (eqb a.place 0) l (held_short at_first s), e) (one_stretch (length l) a.from a.place ∙ rw n) in
    rw (append-nil s, k) at (piece_listed at_first s [])

-- ---- a chain of answers

abbrev WholeOf : Torn → List ℕ → List ℕ → List ℕ → Bool → Type 0
WholeOf t l w c b =
    (w ≡ kept_on (eqb t.place 0) l) × (c ≡ cells (dropped_on (eqb t.place 0) (opened t) t.place l))
    × (b ≡ (t.headed || (eqb t.place 0 && headed l)))

or_none : (h x : Bool) → h ≡ (h || (x && false))
or_none true x = refl
or_none false true = refl
or_none false false = refl

pub one_closed : (from at : ℕ) → option_to_list (stretch_of from at) ≡ closed from at []
unfolding closed
one_closed from at = go (ltb from at)
  where
    go : (b : Bool) → option_to_list (cond {A = Option Stretch} b (Some (record { first = from; size = at - from })) None)
        ≡ cond {A = List Stretch} b (record { first = from; size = at - from } ∷ []) []
    go true = refl
    go false = refl

last_whole : (t : Torn) (h : List ℕ) (x : Stretch) → x ≡ last_of t (length h) → length h ≤ 15 → t.place + length h ≤ last_place
    → WholeOf t (h ++ []) [] (cells (closed x.first (x.first + x.size) [])) t.headed
unfolding last_of
last_whole t h x e o p =
    let n : ends_at t.place (length h) ≡ t.place + length h = omega arith in
    let y : opened t + (t.place + length h - opened t) ≡ t.place + length h = omega arith in
    rw (append-nil h) (
      rw (short_marks (eqb t.place 0) h o) (sym (pick_none h)),
      rw (e, n, y, short_marks (eqb t.place 0) h o) (ap cells (sym (one_stretch (length h) (opened t) t.place))),
      rw (headed_short h (omega arith)) (or_none t.headed (eqb t.place 0)),
    )

pub chain_whole : {t : Torn} {h : List ℕ} {ps : List (List ℕ)} {w c : List ℕ} {b : Bool} → Chain t h ps w c b → length h ≤ 15 → t.place + length h ≤ last_place
    → WholeOf t (h ++ joined ps) w c b
chain_whole {t} {h} (end x e) o p = last_whole t h x e o p
chain_whole {t} {h} (feed {p = q} {ps = ps} {w = w} {c = c} {b = b} r out list out' list' f rest) o p =
    let buf : List ℕ = h ++ q in
    let k = took t buf out list out' list' r f in
    let a : Torn = after t buf in
    let l : List ℕ = held t buf in
    let ed : drop r.done buf ≡ l = held_is t buf r.done k.done in
    let i : WholeOf a (l ++ joined ps) w c b =
    rw (k.torn, ed) at (chain_whole rest (rw ed (held_short t buf)) (rw (k.torn, ed) (held_place t buf k.place))) in
    rw (← append_assoc h q (joined ps), k.bytes.front, k.numbers.front) (
      ap (λ (x : List ℕ). written t buf ++ x) i.0 ∙ sym (piece_written t buf (joined ps)),
      ap (λ (x : List ℕ). cells (listed t buf) ++ x) i.1 ∙ sym (ap cells (piece_listed t buf (joined ps)) ∙ cells_join (listed t buf) _),
      i.2 ∙ sym (piece_headed t buf (joined ps)),
    )

-- ---- when a piece fits for sure

pub enough : (t : Torn) (buf : List ℕ) (n m : ℕ) → t.place + length buf ≤ last_place → length buf ≤ n → length buf < 8 * m + 8 → fed_fits t buf n m ≡ true
unfolding fed_fits written listed
enough t buf n m p a b =
    let w = pick_few (decided t buf) buf in
    let c = few_cells (eqb t.place 0) zero buf (omega arith) (opened t) t.place (λ z. absurd (omega arith)) in
    rw (
      le-leb (t.place + length buf) last_place p,
      le-leb (length (pick (decided t buf) buf)) n (omega arith),
      le-leb (length (cells (ended (opened t) t.place (decided t buf)))) m (omega arith),
    )
