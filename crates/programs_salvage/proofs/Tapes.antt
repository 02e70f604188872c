-- What is written and printed of pieces is, all together, what is written and printed of the tape that they are. The pieces are a chain of answers (crate
-- salvage_marks, specs/Pieces); what is printed goes with it piece by piece. Assumes nothing.
use Prim.Native.Nat.{ℕ, zero, ◌+◌, ◌-◌, ◌*◌, ◌/◌, ◌≤◌}
use native.Mathlib.Omega.{arith}
use mathlib.Core.Bool.{Bool, true}
use mathlib.Core.Path.{◌≡◌, refl, ap, sym, ◌∙◌}
use mathlib.Core.List.{List, [], ◌∷◌, ◌++◌, append_assoc, append-nil}
use borrow.Author.Tests.{le-leb}
use lib.Dec.{eqb}
use lib.ListN.{length, length-append, length-drop, drop_of_length-le}
use lib.Seq.{sets, sets-eq, take-length}
use Rattle.programs_flow.specs.Loops.{behind, texts}
use Rattle.salvage_marks.specs.declared.Torn.{Torn}
use Rattle.salvage_marks.specs.declared.Stretch.{Stretch}
use Rattle.std.specs.Prelude.{Ok}
use Rattle.salvage_marks.specs.Torn.{kept, dropped, found, headed, cells, total}
use Rattle.salvage_marks.specs.Pieces.{last_place, decided, written, listed, after, held, fed_fits, fed_of, FedTo, last_of, Chain}
use Rattle.rules.specs.Line.{joined}
use Rattle.salvage_marks.specs.Pieces.Chain.{end, feed}
use Rattle.salvage_marks.proofs.Ahead.{ahead_few}
use Rattle.salvage_marks.proofs.Chained.{so_fed}
use Rattle.salvage_marks.proofs.Whole.{kept_long, each_byte}
use Rattle.salvage_marks.proofs.Theorems.{in_pieces}
use Rattle.salvage_text.specs.Lines.{stretch_text, list_text, last_text}
use Rattle.programs_salvage.specs.Work.{Between, before_all, kept_of, both_of, then, numbers_of, last_line, end_of, lines}

-- ---- one piece

-- what is held and what is decided are all bytes that were read
pub moved_on : (s : Between) (p : List ℕ)
    → (then s p).torn.place + length (then s p).held ≡ s.torn.place + length s.held + length p
unfolding after held
moved_on s p =
    let buf = s.held ++ p in
    omega (arith, length-drop (length (decided s.torn buf)) buf, ahead_few (eqb s.torn.place 0) zero buf (omega arith), length-append s.held p)

-- a list stored over itself
self : (l : List ℕ) → sets l 0 l ≡ l
self l =
    let o : length l ≤ 0 + length l = omega arith in
    sets-eq l l 0 (omega arith) ∙ rw (drop_of_length-le l o) (append-nil l)

-- The answer to a piece over buffers that are as long as what is written and listed, and hold just that.
module _ (t : Torn) (buf : List ℕ) (o : t.place + length buf ≤ last_place) where
  fits : fed_fits t buf (length (written t buf)) (length (cells (listed t buf))) ≡ true
  unfolding fed_fits
  fits =
      rw (
        le-leb (t.place + length buf) last_place o,
        le-leb (length (written t buf)) (length (written t buf)) (omega arith),
        le-leb (length (cells (listed t buf))) (length (cells (listed t buf))) (omega arith),
      )

  answered : FedTo t buf (written t buf) (cells (listed t buf)) (Ok (so_fed t buf)) (written t buf) (cells (listed t buf))
  unfolding fed_of
  answered = rw fits (refl, sym (self (written t buf)), sym (self (cells (listed t buf))))

linked : (t : Torn) (h p : List ℕ) (ps : List (List ℕ)) (w c : List ℕ) (b : Bool) → t.place + length (h ++ p) ≤ last_place
    → Chain (after t (h ++ p)) (held t (h ++ p)) ps w c b → Chain t h (p ∷ ps) (written t (h ++ p) ++ w) (cells (listed t (h ++ p)) ++ c) b
unfolding held
linked t h p ps w c b o x =
    let buf = h ++ p in
    let w' = written t buf in
    let c' = cells (listed t buf) in
    let y = feed {t = t} {h = h} {p = p} (so_fed t buf) w' c' w' c' (answered t buf o) x in
    rw (take-length (written t buf), take-length (cells (listed t buf))) at y

-- ---- all pieces

more_lines : (xs : List Stretch) (l : List ℕ) → list_text (cells xs ++ l) ≡ list_text (cells xs) ++ list_text l
unfolding list_text cells
more_lines [] l = refl
more_lines (x ∷ xs) l =
    let line = stretch_text x.first x.size in
    ap (λ (m : List ℕ). line ++ m) (more_lines xs l) ∙ sym (append_assoc line (list_text (cells xs)) (list_text l))

placed : (ps : List (List ℕ)) (s : Between)
    → (behind then s ps).torn.place + length (behind then s ps).held ≡ s.torn.place + length s.held + length (joined ps)
unfolding behind
placed [] s = omega arith
placed (p ∷ ps) s = omega (arith, placed ps (then s p), moved_on s p, length-append p (joined ps))

abbrev last_numbers : Between → List ℕ
last_numbers s = numbers_of (last_of s.torn (length s.held))

-- All that is written and listed of pieces, from a state on to the end; and what that makes of the counts.
pub record Chained (s : Between) (ps : List (List ℕ)) : Type 0 where
  pub new : List ℕ
  pub list : List ℕ
  pub chain : Chain s.torn s.held ps new list (behind then s ps).torn.headed
  pub count : (behind then s ps).kept ≡ s.kept + length new
  pub printed : length (texts then both_of s ps) + length (list_text (last_numbers (behind then s ps))) ≡ length new + length (list_text list)

pub chained : (ps : List (List ℕ)) (s : Between) → s.torn.place + length s.held + length (joined ps) ≤ last_place → Chained s ps
unfolding behind texts
chained [] s o =
    record {
      new = [];
      list = last_numbers s;
      chain = end (last_of s.torn (length s.held)) refl;
      count = omega arith;
      printed = omega arith;
    }
chained (p ∷ ps) s o =
    let m = moved_on s p in
    let l = length-append p (joined ps) in
    let r = chained ps (then s p) (omega (arith, m, l)) in
    let ks = kept_of s p in
    let cs = cells (listed s.torn (s.held ++ p)) in
    let e = more_lines (listed s.torn (s.held ++ p)) r.list in
    record {
      new = ks ++ r.new;
      list = cs ++ r.list;
      chain = linked s.torn s.held p ps r.new r.list _ (omega (arith, length-append s.held p, l)) r.chain;
      count = r.count ∙ simp length-append (omega arith);
      printed = rw e (simp length-append (omega (arith, r.printed)));
    }

-- ---- the whole tape

sixteenth : (n : ℕ) → 16 * n / 16 ≡ n
sixteenth n = omega arith

module _ (ps : List (List ℕ)) (o : (behind then before_all ps).torn.place + length (behind then before_all ps).held ≤ last_place) where
  abbrev tape : List ℕ
  tape = joined ps

  abbrev last : Between
  last = behind then before_all ps

  all : Chained before_all ps
  all = chained ps before_all (omega (arith, placed ps before_all, o))

  all_kept : last.kept ≡ 16 * length (found tape)
  all_kept = omega (arith, all.count, ap length (in_pieces ps all.chain).0, kept_long tape)

  same_line : last_line last.torn (length last.held) last.kept ≡ last_text (length (found tape)) (total (dropped tape)) (headed tape)
  same_line =
      let records : last.kept / 16 ≡ length (found tape) = rw all_kept (sixteenth (length (found tape))) in
      let bytes : last.torn.place + length last.held - last.kept ≡ total (dropped tape) =
      omega (arith, placed ps before_all, all_kept, each_byte tape) in
      rw (records, bytes, (in_pieces ps all.chain).2)

  pub whole_tape : length (texts then both_of before_all ps) + length (end_of last.torn (length last.held) last.kept)
      ≡ length (kept tape) + length (lines tape)
  unfolding lines
  whole_tape =
      let w = in_pieces ps all.chain in
      let a = ap length w.0 in
      let b = ap (λ (l : List ℕ). length (list_text l)) w.1 in
      let c = ap length same_line in
      simp length-append (omega (arith, all.printed, a, b, c))
