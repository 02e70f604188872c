-- What the program show prints: of all its input, and of its input in pieces. It steps the bench's model and the chip's
-- queue beside it, and prints of each line, or of the one line that is asked for, walk's row and the block under it.
use Rattle.std.specs.Prelude.{ℕ, suc, ◌*◌, Bool, false, cond, ◌||◌, ◌≡◌, List, [], ◌∷◌, ◌++◌, eqb, leb, ltb, length}
use Rattle.std.proofs.lemmas.List.Edits.{sets}
use Rattle.rules_exceptions.specs.Exceptions.{fresh}
use Rattle.kernel.specs.declared.command.Answer as K
use Rattle.kernel.specs.Public.{running_of}
use Rattle.kernel.specs.Public as P
use Rattle.kernel_state.specs.declared.State.{State}
use Rattle.kernel_state.specs.declared.Answer.{Answer}
use Rattle.kernel_state.specs.Public.{view, encode, answer_of, step_of}
use Rattle.queue_chip.specs.declared.Queue.{Queue}
use Rattle.queue_chip.specs.Queue.{none}
use Rattle.queue_beside.specs.Beside.{followed}
use Rattle.text.specs.declared.Held.{Held}
use Rattle.text.specs.declared.Row.{Row}
use Rattle.text.specs.declared.Spoken.{Spoken}
use Rattle.text.specs.Commands.{command_of}
use Rattle.text.specs.Lines.{lines, last_piece, cuts, holds_after, held_bytes, nothing_held}
use Rattle.text.specs.Printed.{walk_header, walk_line}
use Rattle.decimal.specs.Buffer.{contents_after, place_after, InFront}
use Rattle.session.specs.CarriedOut.{following, asked, row_of}
use Rattle.session_walk_text.specs.Walk.{number_after}
use Rattle.show_text.specs.declared.Showing.{Showing}
use Rattle.show_text.specs.declared.Fed.{Fed}
use Rattle.show_text.specs.Block.{block, show_room}

-- ---- a line

-- What a line is answered: a line that says a command (code 0) is a step of the whole state; one that says none is
-- answered with its code, the running task as it stands, nobody released, and no exception.
unfoldable pub answer_to : State → Spoken → Answer
answer_to s l = cond (eqb l.code 0) (step_of s (asked l)).answer (answer_of l.code (running_of s.kernel) 0 false)

-- the state behind it
unfoldable pub state_behind : State → Spoken → State
state_behind s l = cond (eqb l.code 0) (step_of s (asked l)).next s

-- the chip's queue behind it
unfoldable pub queue_behind : State → Queue → Spoken → Queue
queue_behind s q l = cond (eqb l.code 0) (followed s (asked l) q) q

-- What of an answer stands in walk's row: all but the exception.
abbrev pub plain : Answer → K.Answer
plain a = P.answer_of a.code a.running.0 a.released.0

-- The row of walk: the line's number, what the line says, the answer, and the clock behind it.
unfoldable pub row_for : State → ℕ → Spoken → Row
row_for s n l = row_of n l (plain (answer_to s l)) (state_behind s l).kernel.clock

-- the block of a state and a queue, behind an answer
unfoldable pub block_of : State → Queue → Bool → List ℕ
block_of s q exception = block (view s).machine s.pending q exception

-- What is printed for line n: its row, and the block of what stands behind it.
unfoldable pub line_text : State → Queue → ℕ → Spoken → List ℕ
line_text s q n l =
    walk_line (row_for s n l) ++ block_of (state_behind s l) (queue_behind s q l) (answer_to s l).exception

-- ---- lines

-- Only one line may be asked for, by its number; 0 asks for all.
abbrev pub wanted : ℕ → ℕ → Bool
wanted only n = eqb only 0 || eqb n only

-- What is printed for lines, from a state and a queue, and behind n lines.
unfoldable pub shown : ℕ → State → Queue → ℕ → List (List ℕ) → List ℕ
shown only s q n [] = []
shown only s q n (l ∷ ls) =
    cond (wanted only (following n)) (line_text s q (following n) (command_of l)) []
    ++ shown only (state_behind s (command_of l)) (queue_behind s q (command_of l)) (following n) ls

-- the state and the queue behind lines
unfoldable pub state_after : State → List (List ℕ) → State
state_after s [] = s
state_after s (l ∷ ls) = state_after (state_behind s (command_of l)) ls

unfoldable pub queue_after : State → Queue → List (List ℕ) → Queue
queue_after s q [] = q
queue_after s q (l ∷ ls) = queue_after (state_behind s (command_of l)) (queue_behind s q (command_of l)) ls

-- Show prints walk's header, and what is asked for of the lines of its input, from the fresh machine on.
unfoldable pub show_text : ℕ → List ℕ → List ℕ
show_text only input = walk_header ++ shown only (encode fresh) none 0 (lines input)

-- ---- in pieces

unfoldable pub at_first : Showing
at_first = record { state = encode fresh; queue = none; held = nothing_held; n = 0 }

-- the lines that end in a piece, the first of them with what was held of it; what is printed for them; and where the
-- show stands behind the piece
abbrev pub lines_in : Showing → List ℕ → List (List ℕ)
lines_in w piece = cuts (suc (length piece)) w.held piece 0

unfoldable pub text_for : ℕ → Showing → List ℕ → List ℕ
text_for only w piece = shown only w.state w.queue w.n (lines_in w piece)

unfoldable pub show_after : Showing → List ℕ → Showing
show_after w piece =
    record {
      state = state_after w.state (lines_in w piece);
      queue = queue_after w.state w.queue (lines_in w piece);
      held = holds_after (suc (length piece)) w.held piece 0;
      n = number_after w.n (lines_in w piece);
    }

-- Where a buffer has no room for a row and a block for each byte of the piece and one more, nothing is done: the same
-- show, no byte printed.
abbrev pub roomy : List ℕ → List ℕ → Bool
roomy piece out = leb (show_room * suc (length piece)) (length out)

abbrev pub fed : ℕ → Showing → List ℕ → List ℕ → Fed
fed only w piece out =
    cond (roomy piece out)
    (record { showing = show_after w piece; at = length (text_for only w piece) })
    (record { showing = w; at = 0 })

abbrev pub fed_out : ℕ → Showing → List ℕ → List ℕ → List ℕ
fed_out only w piece out = cond (roomy piece out) (sets out 0 (text_for only w piece)) out

-- The same of a show whose tables are lent: the show and the answer from their parts; and what is answered and left in
-- the buffer.
abbrev pub standing : State → Queue → Held → ℕ → Showing
standing s q h n = record { state = s; queue = q; held = h; n = n }

abbrev pub stood : Showing → ℕ → Fed
stood w at = record { showing = w; at = at }

abbrev pub Feeds : ℕ → Showing → List ℕ → List ℕ → Fed → List ℕ → Type 0
Feeds only w piece out r left =
    (r ≡ fed only w piece out) × (left ≡ fed_out only w piece out) × InFront r.at left

-- At the end of the input: a last line without a line end counts.
unfoldable pub last_text : ℕ → Showing → List ℕ
last_text only w = shown only w.state w.queue w.n (last_piece (held_bytes w.held))

abbrev pub finished : ℕ → Showing → List ℕ → ℕ
finished only w out = place_after show_room out 0 (last_text only w)

abbrev pub finished_out : ℕ → Showing → List ℕ → List ℕ
finished_out only w out = contents_after show_room out 0 (last_text only w)

-- how many lines there were in all
unfoldable pub lines_seen : Showing → ℕ
lines_seen w = number_after w.n (last_piece (held_bytes w.held))

-- More is to be read: all lines are asked for, or the one that is has not come yet.
abbrev pub wants : ℕ → Showing → Bool
wants only w = eqb only 0 || ltb w.n only

-- What show reads at a time, and the room that it lends: a row and a block for each byte of a piece, and one more.
-- (15 bytes, for the programs run on a stack of 128 KiB: host/io.py holds them to it. The room is 65,536 bytes.)
abbrev pub show_piece : ℕ
show_piece = 15

abbrev pub show_lent : ℕ
show_lent = show_room * suc show_piece

-- What is printed for pieces, one after another, each with room enough, to the end of the input.
unfoldable pub printed : ℕ → Showing → List (List ℕ) → List ℕ
printed only w [] = last_text only w
printed only w (p ∷ ps) = text_for only w p ++ printed only (show_after w p) ps
