-- What is promised of draw: whatever the pieces, it prints what it prints of the whole input. The idea: lines heard one after another print what
-- `first_text` says, stage by stage. Assumes nothing.
use Prim.Native.Nat.{ℕ, zero, suc, ◌-◌, ◌≤◌}
use native.Mathlib.Omega.{arith}
use mathlib.Core.Bool.{Bool, true, false, cond}
use mathlib.Core.Path.{◌≡◌, refl, ap, sym, ◌∙◌}
use mathlib.Core.List.{List, [], ◌∷◌, ◌++◌, map, append_assoc, append-nil}
use borrow.Author.Tests.{le-leb}
use lib.Dec.{eqb}
use lib.ListN.{length}
use Rattle.rules.specs.Line.{empty, joined}
use Rattle.kernel.specs.declared.Kernel.{Kernel}
use Rattle.generator.specs.declared.Profile.{Profile}
use Rattle.generator.specs.Public.{drawn_of}
use Rattle.text.specs.declared.FirstLine.{FirstLine}
use Rattle.text.specs.Commands.{command_of}
use Rattle.text.specs.FirstLine.{first_line_of}
use Rattle.text.specs.Lines.{lines, kept, last_piece, held_bytes, nothing_held, cuts, lines_of_pieces}
use Rattle.text.specs.Printed.{draw_header, draw_line}
use Rattle.text.proofs.Theorems.{lines_whole}
use Rattle.session_stage.specs.declared.DrawRun.{DrawRun}
use Rattle.session_draw.specs.declared.Reader.{Reader}
use Rattle.session.specs.CarriedOut.{following, state_behind, row_for}
use Rattle.session_stage.specs.Stage.{Moved, zeros, starts, profile_of, over_with, not_moved, opened, set_up, moved, ended}
use Rattle.session_draw.specs.Draw.{spoken, draws_text, setup_text, first_text, draw_text, at_first, drawn_next, text_of, lines_text, lines_behind}
use Rattle.session_draw.specs.Draw.{some_text, piece_text, piece_behind, last_moved, end_text, end_behind, printed}
use Rattle.session_draw.proofs.Drawing.{moved_kept}

-- ---- lines behind lines

moved_append : (d : DrawRun) (ls ms : List (List ℕ)) → lines_text d (ls ++ ms) ≡ lines_text d ls ++ lines_text (lines_behind d ls) ms
unfolding lines_text lines_behind
moved_append d [] ms = refl
moved_append d (l ∷ ls) ms = rw (moved_append (moved d l).run ls ms, append_assoc)

behind_append : (d : DrawRun) (ls ms : List (List ℕ)) → lines_behind d (ls ++ ms) ≡ lines_behind (lines_behind d ls) ms
unfolding lines_behind
behind_append d [] ms = refl
behind_append d (l ∷ ls) ms = behind_append (moved d l).run ls ms

text_kept : (d : DrawRun) (ls : List (List ℕ)) → lines_text d (map kept ls) ≡ lines_text d ls
unfolding lines_text
text_kept d [] = refl
text_kept d (l ∷ ls) = rw (moved_kept d l, text_kept (moved d l).run ls)

behind_kept : (d : DrawRun) (ls : List (List ℕ)) → lines_behind d (map kept ls) ≡ lines_behind d ls
unfolding lines_behind
behind_kept d [] = refl
behind_kept d (l ∷ ls) = ap (λ (h : Moved). lines_behind h.run (map kept ls)) (moved_kept d l) ∙ behind_kept (moved d l).run ls

-- ---- lines to the end of the input, and the draws behind it

closing_text : DrawRun → List ℕ
closing_text d = text_of (ended d) ++ some_text (ended d).run.left (ended d).run

all_text : DrawRun → List (List ℕ) → List ℕ
all_text d ls = lines_text d ls ++ closing_text (lines_behind d ls)

last_lines : (r : Reader) → (text_of (last_moved r) ≡ lines_text r.run (last_piece (held_bytes r.held)))
    × ((last_moved r).run ≡ lines_behind r.run (last_piece (held_bytes r.held)))
unfolding last_moved lines_text lines_behind not_moved
last_lines r = go (empty (held_bytes r.held))
  where
    go : (b : Bool)
        → (text_of (cond b (not_moved r.run) (moved r.run (held_bytes r.held))) ≡ lines_text r.run (cond b [] (held_bytes r.held ∷ [])))
        × ((cond b (not_moved r.run) (moved r.run (held_bytes r.held))).run ≡ lines_behind r.run (cond b [] (held_bytes r.held ∷ [])))
    go true = (refl, refl)
    go false = (sym (append-nil _), refl)

behind_same : {a b : List ℕ} {d e : DrawRun} → a ≡ b → d ≡ e → a ++ closing_text d ≡ b ++ closing_text e
behind_same p q = cc

printed_lines : (ps : List (List ℕ)) (r : Reader) → printed r ps ≡ all_text r.run (lines_of_pieces r.held ps)
unfolding printed end_text end_behind all_text closing_text piece_text piece_behind lines_of_pieces
printed_lines [] r =
    append_assoc (text_of (last_moved r)) (text_of (ended (last_moved r).run))
    (some_text (ended (last_moved r).run).run.left (ended (last_moved r).run).run)
    ∙ behind_same (last_lines r).0 (last_lines r).1
printed_lines (p ∷ ps) r =
    let ls = cuts (suc (length p)) r.held p 0 in
    rw (printed_lines ps (piece_behind r p), moved_append r.run ls, behind_append r.run ls, append_assoc)

all_kept : (d : DrawRun) (ls : List (List ℕ)) → all_text d (map kept ls) ≡ all_text d ls
unfolding all_text
all_kept d ls = rw (text_kept d ls, behind_kept d ls)

-- ---- stage by stage

module _ (k : Kernel) (n seed : ℕ) (p : Profile) where
  drawing : ℕ → DrawRun
  drawing left = record { stage = 2; kernel = k; n = n; seed = seed; profile = p; left = left }

over : (d : DrawRun) (ls : List (List ℕ)) → (eqb d.stage 0 ≡ false) → (eqb d.stage 1 ≡ false) → (lines_text d ls ≡ []) × (lines_behind d ls ≡ d)
unfolding lines_text lines_behind moved not_moved
over d [] a b = (refl, refl)
over d (l ∷ ls) a b = rw (a, b) (over d ls a b)

draws : (left : ℕ) (k : Kernel) (n seed : ℕ) (p : Profile) → some_text left (drawing k n seed p left) ≡ draws_text left k n seed p
unfolding some_text draws_text drawn_next drawing
draws zero k n seed p = refl
draws (suc left) k n seed p =
    let o : 1 ≤ suc left = omega arith in
    let e : suc left - 1 ≡ left = omega arith in
    rw (le-leb 1 (suc left) o, e, draws left (state_behind k (spoken (drawn_of k seed p))) (following n) (drawn_of k seed p).seed p)

-- behind an accepted start no line is heard, and the draws come
started : (left : ℕ) (k : Kernel) (n seed : ℕ) (p : Profile) (ls : List (List ℕ)) → all_text (drawing k n seed p left) ls ≡ draws_text left k n seed p
unfolding all_text closing_text ended not_moved drawing
started left k n seed p ls = rw ((over (drawing k n seed p left) ls refl refl).0, (over (drawing k n seed p left) ls refl refl).1) (draws left k n seed p)

setting : FirstLine → Kernel → ℕ → ℕ → DrawRun
setting f k n stage = record { stage = stage; kernel = k; n = n; seed = f.seed; profile = profile_of f; left = f.count }

setups : (ls : List (List ℕ)) (f : FirstLine) (k : Kernel) (n : ℕ) → all_text (setting f k n 1) ls ≡ setup_text f k n ls
unfolding all_text closing_text lines_text lines_behind moved set_up ended over_with some_text setup_text setting drawing
setups [] f k n = append-nil (draw_line (zeros 2))
setups (l ∷ ls) f k n =
    rw append_assoc (ap (λ (t : List ℕ). draw_line (row_for k (following n) (command_of l)) ++ t)
    (go (starts (row_for k (following n) (command_of l))) (setups ls f (state_behind k (command_of l)) (following n))))
  where
    go : (b : Bool) → all_text (setting f (state_behind k (command_of l)) (following n) 1) ls ≡ setup_text f (state_behind k (command_of l)) (following n) ls
        → all_text (setting f (state_behind k (command_of l)) (following n) (cond b 2 1)) ls
        ≡ cond b (draws_text f.count (state_behind k (command_of l)) (following n) f.seed (profile_of f))
        (setup_text f (state_behind k (command_of l)) (following n) ls)
    go true h = started f.count (state_behind k (command_of l)) (following n) f.seed (profile_of f) ls
    go false h = h

firsts : (ls : List (List ℕ)) → all_text at_first.run ls ≡ first_text ls
unfolding all_text closing_text lines_text lines_behind moved opened ended over_with not_moved some_text first_text at_first setting
firsts [] = append-nil (draw_line (zeros 14))
firsts (l ∷ ls) = go (eqb (first_line_of l).code 0)
  where
    after : Bool → Moved
    after b =
        cond b
        (record { run = setting (first_line_of l) at_first.run.kernel 0 1; shown = false; row = zeros 0 })
        (over_with (first_line_of l).code at_first.run)

    go : (b : Bool) → (text_of (after b) ++ lines_text (after b).run ls) ++ closing_text (lines_behind (after b).run ls)
        ≡ cond b (setup_text (first_line_of l) at_first.run.kernel 0 ls) (draw_line (zeros (first_line_of l).code))
    go true = setups ls (first_line_of l) at_first.run.kernel 0
    go false =
        let d = (over_with (first_line_of l).code at_first.run).run in
        rw ((over d ls refl refl).0, (over d ls refl refl).1, append-nil, append-nil)

-- Whatever the pieces in which its input comes, of any number and length, draw prints what it prints of the whole input.
-- (It rules out a draw that reads on behind an accepted start, that drops a last line without a line end, or that prints nothing where no start comes.)
pub draw_whole : (ps : List (List ℕ)) → draw_header ++ printed at_first ps ≡ draw_text (joined ps)
unfolding draw_text at_first
draw_whole ps = rw (printed_lines ps at_first, nothing_yet, lines_whole ps, all_kept) (ap (λ (t : List ℕ). draw_header ++ t) (firsts (lines (joined ps))))
  where
    nothing_yet : at_first.held ≡ nothing_held
    nothing_yet = refl
