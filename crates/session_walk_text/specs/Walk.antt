-- What the program walk prints: of all its input, and of its input in pieces.
use Rattle.std.specs.Prelude.{ℕ, suc, ◌*◌, Bool, cond, ◌≡◌, List, [], ◌∷◌, ◌++◌, leb, length}
use Rattle.std.proofs.lemmas.List.Edits.{sets}
use Rattle.rules.specs.Machine.{fresh}
use Rattle.kernel.specs.declared.Kernel.{Kernel}
use Rattle.kernel.specs.View.{encode}
use Rattle.text.specs.declared.Held.{Held}
use Rattle.decimal.specs.Buffer.{contents_after, place_after, InFront}
use Rattle.text.specs.Commands.{command_of}
use Rattle.text.specs.Lines.{lines, last_piece, cuts, holds_after, held_bytes, nothing_held}
use Rattle.text.specs.Printed.{walk_header, walk_line, header_room, walk_room}
use Rattle.session_walk_text.specs.declared.Walk.{Walk}
use Rattle.session_walk_text.specs.declared.Fed.{Fed}
use Rattle.session.specs.CarriedOut.{following, state_behind, state_after, row_for}

-- What is printed for lines, from a state and behind n lines: one line for each.
unfoldable pub walked : Kernel → ℕ → List (List ℕ) → List ℕ
walked k n [] = []
walked k n (l ∷ ls) =
    walk_line (row_for k (following n) (command_of l)) ++ walked (state_behind k (command_of l)) (following n) ls

-- how many lines there were then
unfoldable pub number_after : ℕ → List (List ℕ) → ℕ
number_after n [] = n
number_after n (l ∷ ls) = number_after (following n) ls

-- Walk prints its header, and the lines of its input from the fresh machine on. No input at all gives the header only.
unfoldable pub walk_text : List ℕ → List ℕ
walk_text input = walk_header ++ walked (encode fresh) 0 (lines input)

-- ---- in pieces

unfoldable pub at_first : Walk
at_first = record { kernel = encode fresh; held = nothing_held; n = 0 }

-- the lines that end in a piece, the first of them with what was held of it; what is printed for them; and the walk
-- behind the piece
abbrev pub lines_in : Walk → List ℕ → List (List ℕ)
lines_in w piece = cuts (suc (length piece)) w.held piece 0

unfoldable pub text_for : Walk → List ℕ → List ℕ
text_for w piece = walked w.kernel w.n (lines_in w piece)

unfoldable pub walk_after : Walk → List ℕ → Walk
walk_after w piece =
    record {
      kernel = state_after w.kernel (lines_in w piece);
      held = holds_after (suc (length piece)) w.held piece 0;
      n = number_after w.n (lines_in w piece);
    }

-- Where a buffer has no room for a line for each byte of the piece and one more, nothing is done: the same walk, no
-- byte printed.
abbrev pub roomy : List ℕ → List ℕ → Bool
roomy piece out = leb (walk_room * suc (length piece)) (length out)

abbrev pub fed : Walk → List ℕ → List ℕ → Fed
fed w piece out =
    cond (roomy piece out)
    (record { walk = walk_after w piece; at = length (text_for w piece) })
    (record { walk = w; at = 0 })

abbrev pub fed_out : Walk → List ℕ → List ℕ → List ℕ
fed_out w piece out = cond (roomy piece out) (sets out 0 (text_for w piece)) out

-- The same of a walk whose tables are lent: the walk and the answer from their parts; and what is answered and left
-- in the buffer.
abbrev pub standing : Kernel → Held → ℕ → Walk
standing k h n = record { kernel = k; held = h; n = n }

abbrev pub stood : Walk → ℕ → Fed
stood w at = record { walk = w; at = at }

abbrev pub Feeds : Walk → List ℕ → List ℕ → Fed → List ℕ → Type 0
Feeds w piece out r left = (r ≡ fed w piece out) × (left ≡ fed_out w piece out) × InFront r.at left

abbrev pub headed : List ℕ → ℕ
headed out = place_after header_room out 0 walk_header

abbrev pub headed_out : List ℕ → List ℕ
headed_out out = contents_after header_room out 0 walk_header

-- At the end of the input: a last line without a line end counts.
unfoldable pub last_text : Walk → List ℕ
last_text w = walked w.kernel w.n (last_piece (held_bytes w.held))

abbrev pub finished : Walk → List ℕ → ℕ
finished w out = place_after walk_room out 0 (last_text w)

abbrev pub finished_out : Walk → List ℕ → List ℕ
finished_out w out = contents_after walk_room out 0 (last_text w)

-- What is printed for pieces, one after another, each with room enough, to the end of the input.
unfoldable pub printed : Walk → List (List ℕ) → List ℕ
printed w [] = last_text w
printed w (p ∷ ps) = text_for w p ++ printed (walk_after w p) ps
