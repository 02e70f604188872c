-- What the program draw prints: of all its input, and of its input in pieces.
use Rattle.std.specs.Prelude.{ℕ, zero, suc, ◌-◌, ◌*◌, Bool, true, cond, ◌&&◌, ◌≡◌, List, [], ◌∷◌, ◌++◌, eqb, leb, length, replicate}
use Rattle.std.proofs.lemmas.List.Edits.{sets}
use Rattle.rules.specs.Line.{empty}
use Rattle.rules.specs.Machine.{fresh}
use Rattle.kernel.specs.declared.Kernel.{Kernel}
use Rattle.kernel.specs.View.{encode}
use Rattle.generator.specs.declared.Profile.{Profile}
use Rattle.generator.specs.declared.Drawn.{Drawn}
use Rattle.generator.specs.Public.{drawn_of}
use Rattle.text.specs.declared.Spoken.{Spoken}
use Rattle.text.specs.declared.FirstLine.{FirstLine}
use Rattle.text.specs.declared.Row.{Row}
use Rattle.text.specs.declared.Held.{Held}
use Rattle.decimal.specs.Buffer.{contents_after, place_after, InFront}
use Rattle.text.specs.Commands.{command_of}
use Rattle.text.specs.FirstLine.{first_line_of}
use Rattle.text.specs.Lines.{lines, cuts, holds_after, held_bytes, nothing_held}
use Rattle.text.specs.Printed.{draw_header, draw_line, header_room, draw_room}
use Rattle.session_stage.specs.declared.DrawRun.{DrawRun}
use Rattle.session_stage.specs.declared.Course.{Course}
use Rattle.session_draw.specs.declared.Reader.{Reader}
use Rattle.session_draw.specs.declared.Read.{Read}
use Rattle.session_draw.specs.declared.Printed.{Printed}
use Rattle.session_draw.specs.declared.Through.{Through}
use Rattle.session_draw.specs.declared.Lot.{Lot}
use Rattle.session_stage.specs.Stage.{first_line, drawing, Moved, zeros, starts, profile_of, not_moved, moved, ended}
use Rattle.session_stage.specs.Stage.{as_run}
use Rattle.session.specs.CarriedOut.{following, state_behind, row_for}

-- ---- of all its input

-- a drawn command, as a line that says it
abbrev pub spoken : Drawn → Spoken
spoken d =
    record { code = d.code; op = d.command.op; a = d.command.a; b = d.command.b; value = d.command.value }

-- Draws, as many as are left: each is drawn from the state as it stands, and is a step. Numbers go on from the setup
-- lines.
unfoldable pub draws_text : ℕ → Kernel → ℕ → ℕ → Profile → List ℕ
draws_text zero k n seed p = []
draws_text (suc left) k n seed p =
    draw_line (row_for k (following n) (spoken (drawn_of k seed p)))
    ++ draws_text left (state_behind k (spoken (drawn_of k seed p))) (following n) (drawn_of k seed p).seed p

-- Setup lines, through an accepted start; then no more is read, and K commands are drawn. Input that ends without a
-- start adds a line of zeros with code 2.
unfoldable pub setup_text : FirstLine → Kernel → ℕ → List (List ℕ) → List ℕ
setup_text f k n [] = draw_line (zeros 2)
setup_text f k n (l ∷ ls) =
    draw_line (row_for k (following n) (command_of l))
    ++ cond (starts (row_for k (following n) (command_of l)))
    (draws_text f.count (state_behind k (command_of l)) (following n) f.seed (profile_of f))
    (setup_text f (state_behind k (command_of l)) (following n) ls)

-- A bad first line prints one line of zeros with its code, 14, 17 or 18; an absent one is 14.
unfoldable pub first_text : List (List ℕ) → List ℕ
first_text [] = draw_line (zeros 14)
first_text (l ∷ ls) =
    cond (eqb (first_line_of l).code 0)
    (setup_text (first_line_of l) (encode fresh) 0 ls)
    (draw_line (zeros (first_line_of l).code))

unfoldable pub draw_text : List ℕ → List ℕ
draw_text input = draw_header ++ first_text (lines input)

-- ---- in pieces

unfoldable pub at_first : Reader
at_first =
    record {
      run =
          record {
            stage = first_line;
            kernel = encode fresh;
            n = 0;
            seed = 0;
            profile = record { span = 0; weights = replicate 8 0 };
            left = 0;
          };
      held = nothing_held;
    }

-- one draw
unfoldable pub drawn_next : DrawRun → Moved
drawn_next d =
    cond (eqb d.stage drawing && leb 1 d.left)
    (record {
      run =
          record {
            stage = drawing;
            kernel = state_behind d.kernel (spoken (drawn_of d.kernel d.seed d.profile));
            n = following d.n;
            seed = (drawn_of d.kernel d.seed d.profile).seed;
            profile = d.profile;
            left = d.left - 1;
          };
      shown = true;
      row = row_for d.kernel (following d.n) (spoken (drawn_of d.kernel d.seed d.profile));
    })
    (not_moved d)

-- what is printed
abbrev pub shown_text : Bool → Row → List ℕ
shown_text b r = cond b (draw_line r) []

abbrev pub text_of : Moved → List ℕ
text_of h = shown_text h.shown h.row

-- for lines; and for some draws
unfoldable pub lines_text : DrawRun → List (List ℕ) → List ℕ
lines_text d [] = []
lines_text d (l ∷ ls) = text_of (moved d l) ++ lines_text (moved d l).run ls

unfoldable pub lines_behind : DrawRun → List (List ℕ) → DrawRun
lines_behind d [] = d
lines_behind d (l ∷ ls) = lines_behind (moved d l).run ls

unfoldable pub some_text : ℕ → DrawRun → List ℕ
some_text zero d = []
some_text (suc m) d = text_of (drawn_next d) ++ some_text m (drawn_next d).run

unfoldable pub some_behind : ℕ → DrawRun → DrawRun
some_behind zero d = d
some_behind (suc m) d = some_behind m (drawn_next d).run

-- for a piece of input: where a buffer has no room for a line for each byte of the piece and one more, nothing is done
abbrev pub lines_in : Reader → List ℕ → List (List ℕ)
lines_in r piece = cuts (suc (length piece)) r.held piece 0

unfoldable pub piece_text : Reader → List ℕ → List ℕ
piece_text r piece = lines_text r.run (lines_in r piece)

unfoldable pub piece_behind : Reader → List ℕ → Reader
piece_behind r piece =
    record {
      run = lines_behind r.run (lines_in r piece);
      held = holds_after (suc (length piece)) r.held piece 0;
    }

abbrev pub roomy : ℕ → List ℕ → Bool
roomy n out = leb (draw_room * n) (length out)

abbrev pub fed : Reader → List ℕ → List ℕ → Read
fed r piece out =
    cond (roomy (suc (length piece)) out)
    (record { reader = piece_behind r piece; at = length (piece_text r piece) })
    (record { reader = r; at = 0 })

abbrev pub fed_out : Reader → List ℕ → List ℕ → List ℕ
fed_out r piece out = cond (roomy (suc (length piece)) out) (sets out 0 (piece_text r piece)) out

-- for the end of the input: a last line without a line end counts if it has a byte; where no start was accepted, a
-- line of zeros
unfoldable pub last_moved : Reader → Moved
last_moved r = cond (empty (held_bytes r.held)) (not_moved r.run) (moved r.run (held_bytes r.held))

unfoldable pub end_text : Reader → List ℕ
end_text r = text_of (last_moved r) ++ text_of (ended (last_moved r).run)

unfoldable pub end_behind : Reader → DrawRun
end_behind r = (ended (last_moved r).run).run

abbrev pub finished : Reader → List ℕ → Printed
finished r out =
    cond (roomy 2 out)
    (record { run = end_behind r; at = length (end_text r) })
    (record { run = r.run; at = 0 })

abbrev pub finished_out : Reader → List ℕ → List ℕ
finished_out r out = cond (roomy 2 out) (sets out 0 (end_text r)) out

-- for some draws
abbrev pub some_drawn : DrawRun → ℕ → List ℕ → Printed
some_drawn d most out =
    cond (roomy most out)
    (record { run = some_behind most d; at = length (some_text most d) })
    (record { run = d; at = 0 })

abbrev pub some_drawn_out : DrawRun → ℕ → List ℕ → List ℕ
some_drawn_out d most out = cond (roomy most out) (sets out 0 (some_text most d)) out

-- ---- of a run whose tables are lent: they are its state, and what is passed beside them is its course

abbrev pub as_reader : Kernel → Course → Held → Reader
as_reader k c h = record { run = as_run k c; held = h }

abbrev pub as_read : Kernel → Through → Read
as_read k t = record { reader = as_reader k t.course t.kept; at = t.at }

abbrev pub as_printed : Kernel → Lot → Printed
as_printed k t = record { run = as_run k t.course; at = t.at }

-- what is answered and left in the buffer, of a piece and of some draws
abbrev pub Feeds : Reader → List ℕ → List ℕ → Read → List ℕ → Type 0
Feeds r piece out x left = (x ≡ fed r piece out) × (left ≡ fed_out r piece out) × InFront x.at left

abbrev pub DrawsSome : DrawRun → ℕ → List ℕ → Printed → List ℕ → Type 0
DrawsSome d most out x left = (x ≡ some_drawn d most out) × (left ≡ some_drawn_out d most out) × InFront x.at left

abbrev pub headed : List ℕ → ℕ
headed out = place_after header_room out 0 draw_header

abbrev pub headed_out : List ℕ → List ℕ
headed_out out = contents_after header_room out 0 draw_header

-- What is printed for pieces, one after another, and at the end of the input: then the draws that are left, if any are.
unfoldable pub printed : Reader → List (List ℕ) → List ℕ
printed r [] = end_text r ++ some_text (end_behind r).left (end_behind r)
printed r (p ∷ ps) = piece_text r p ++ printed (piece_behind r p) ps
