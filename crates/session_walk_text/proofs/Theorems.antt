-- What is promised of the programs' sessions. Assumes nothing.
use Prim.Native.Nat.{ℕ, suc}
use mathlib.Core.Path.{◌≡◌, refl, sym}
use mathlib.Core.List.{List, [], ◌∷◌, ◌++◌, map, append_assoc}
use lib.ListN.{length}
use Rattle.kernel.specs.declared.Kernel.{Kernel}
use Rattle.kernel.specs.Public.{running_of}
use Rattle.text.specs.Commands.{command_of, no_command}
use Rattle.text.specs.Lines.{kept, cuts, holds_after, lines_of_pieces}
use Rattle.text.specs.Printed.{walk_header}
use Rattle.text.proofs.Kept.{kept_says}
use Rattle.text.proofs.Theorems.{lines_whole}
use Rattle.session_walk_text.specs.declared.Walk.{Walk}
use Rattle.session.specs.CarriedOut.{following, state_behind, answer_to, row_for, state_after}
use Rattle.session_walk_text.specs.Walk.{walked, number_after, walk_text, at_first, text_for, walk_after, last_text, printed}
use Rattle.rules.specs.Line.{joined}

-- A line refused with 14 has op, operands and released 0, the running task and clock as they stand, and changes nothing.
-- (It rules out a program that loses the running task, or steps all the same. That the line counts, is in `walked`.)
pub refused_line : (k : Kernel) (n : ℕ) (l : List ℕ) → command_of l ≡ no_command
    → (state_behind k (command_of l) ≡ k)
    × (row_for k n (command_of l) ≡ record { n = n; op = 0; a = 0; b = 0; value = 0; code = 14; running = running_of k; released = 0; clock = k.clock })
unfolding state_behind answer_to
refused_line k n l e = (rw e, rw e)

-- ---- lines behind lines

walked_append : (k : Kernel) (n : ℕ) (ls ms : List (List ℕ)) → walked k n (ls ++ ms) ≡ walked k n ls ++ walked (state_after k ls) (number_after n ls) ms
unfolding walked state_after number_after
walked_append k n [] ms = refl
walked_append k n (l ∷ ls) ms = rw (walked_append (state_behind k (command_of l)) (following n) ls ms, append_assoc)

walked_kept : (k : Kernel) (n : ℕ) (ls : List (List ℕ)) → walked k n (map kept ls) ≡ walked k n ls
unfolding walked
walked_kept k n [] = refl
walked_kept k n (l ∷ ls) = rw (kept_says l, walked_kept (state_behind k (command_of l)) (following n) ls)

printed_lines : (ps : List (List ℕ)) (w : Walk) → printed w ps ≡ walked w.kernel w.n (lines_of_pieces w.held ps)
unfolding printed last_text text_for walk_after lines_of_pieces
printed_lines [] w = refl
printed_lines (p ∷ ps) w =
    rw (printed_lines ps (walk_after w p))
    (sym (walked_append w.kernel w.n (cuts (suc (length p)) w.held p 0) (lines_of_pieces (holds_after (suc (length p)) w.held p 0) ps)))

-- Whatever the pieces in which its input comes, of any number and length, walk prints what it prints of the whole input.
-- (It rules out a program that splits a line at a piece's end, drops a last line without a line end, or counts such a line twice.)
pub walk_whole : (ps : List (List ℕ)) → walk_header ++ printed at_first ps ≡ walk_text (joined ps)
unfolding walk_text at_first
walk_whole ps = rw (printed_lines ps at_first, lines_whole ps, walked_kept)
