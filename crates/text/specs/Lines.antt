-- The lines of a byte string, and how a reader that gets it in pieces keeps a line that has begun.
use Rattle.std.specs.Prelude.{ℕ, zero, suc, ◌+◌, min, true, false, cond, List, [], ◌∷◌, ◌++◌, eqb, length, take, drop, replicate}
use Rattle.std.proofs.lemmas.List.Edits.{sets}
use Rattle.rules.specs.Line.{empty}
use Rattle.text.specs.declared.Held.{Held}
use Rattle.text.specs.declared.Cut.{Cut}
use Rattle.text.specs.declared.NextCommand.{NextCommand}
use Rattle.text.specs.declared.Spoken.{Spoken}
use Rattle.text.specs.Commands.{command_of, no_command}
use Rattle.text.specs.Words.{line_end, before, onward}

-- The line end is byte 10 and nothing else. The lines that end in l, behind `begun`, the bytes of a line that has
-- begun; and the bytes of the line that l leaves begun.
unfoldable pub ended : List ℕ → List ℕ → List (List ℕ)
ended begun [] = []
ended begun (b ∷ l) = cond (eqb b line_end) (begun ∷ ended [] l) (ended (begun ++ (b ∷ [])) l)

unfoldable pub begins : List ℕ → List ℕ → List ℕ
begins begun [] = begun
begins begun (b ∷ l) = cond (eqb b line_end) (begins [] l) (begins (begun ++ (b ∷ [])) l)

-- A last piece without a line end counts if it has at least one byte.
abbrev pub last_piece : List ℕ → List (List ℕ)
last_piece begun = cond (empty begun) [] (begun ∷ [])

unfoldable pub lines : List ℕ → List (List ℕ)
lines l = ended [] l ++ last_piece (begins [] l)

-- What is kept of a line: all of it, up to 128 bytes; of a longer one 129, so that it is known to be too long for any
-- use.
abbrev pub keep_most : ℕ
keep_most = 129

abbrev pub kept : List ℕ → List ℕ
kept l = take keep_most l

-- what a reader holds of a line that has begun
abbrev pub held_bytes : Held → List ℕ
held_bytes h = take h.count h.bytes

unfoldable pub nothing_held : Held
nothing_held = record { bytes = replicate keep_most 0; count = 0 }

-- a piece more of the line; what finds no room is left out
unfoldable pub hold_more : Held → List ℕ → Held
hold_more h piece =
    record {
      bytes = sets h.bytes (min keep_most h.count) piece;
      count = min keep_most (min keep_most h.count + length piece);
    }

-- the place of the first line end from a place on, or the end
unfoldable pub end_from : List ℕ → ℕ → ℕ
end_from s at = at + length (before line_end (drop at s))

-- From a place on: the line up to the next line end, whole, and the place behind that; or all that is left, and more
-- is needed.
unfoldable pub cut_of : Held → List ℕ → ℕ → Cut
cut_of h s at =
    cond (empty (onward line_end (drop at s)))
    (record { whole = false; held = hold_more h (before line_end (drop at s)); next = end_from s at })
    (record { whole = true; held = hold_more h (before line_end (drop at s)); next = end_from s at + 1 })

-- The same for a reader of commands: what a whole line says, and nothing held behind it.
unfoldable pub next_command_of : Held → List ℕ → ℕ → NextCommand
next_command_of h s at =
    let c = cut_of h s at in
    cond c.whole
    (record { whole = true; spoken = command_of (held_bytes c.held); held = nothing_held; next = c.next })
    (record { whole = false; spoken = no_command; held = c.held; next = c.next })

-- The lines that a reader gets out of a piece, and what it holds behind it: cut after cut, nothing held behind a
-- whole line. A piece of n bytes has at most n line ends.
unfoldable pub cuts : ℕ → Held → List ℕ → ℕ → List (List ℕ)
cuts zero h s at = []
cuts (suc n) h s at =
    let c = cut_of h s at in
    cond c.whole (held_bytes c.held ∷ cuts n nothing_held s c.next) []

unfoldable pub holds_after : ℕ → Held → List ℕ → ℕ → Held
holds_after zero h s at = h
holds_after (suc n) h s at =
    let c = cut_of h s at in
    cond c.whole (holds_after n nothing_held s c.next) c.held

-- and out of pieces, to the end of the input
unfoldable pub lines_of_pieces : Held → List (List ℕ) → List (List ℕ)
lines_of_pieces h [] = last_piece (held_bytes h)
lines_of_pieces h (p ∷ ps) = cuts (suc (length p)) h p 0 ++ lines_of_pieces (holds_after (suc (length p)) h p 0) ps

-- the commands that a reader of commands gets out of a piece, and out of pieces to the end of the input
unfoldable pub commands_in : ℕ → Held → List ℕ → ℕ → List Spoken
commands_in zero h s at = []
commands_in (suc n) h s at =
    let c = next_command_of h s at in
    cond c.whole (c.spoken ∷ commands_in n c.held s c.next) []

unfoldable pub last_command : List ℕ → List Spoken
last_command begun = cond (empty begun) [] (command_of begun ∷ [])

unfoldable pub commands_of_pieces : Held → List (List ℕ) → List Spoken
commands_of_pieces h [] = last_command (held_bytes h)
commands_of_pieces h (p ∷ ps) =
    commands_in (suc (length p)) h p 0 ++ commands_of_pieces (holds_after (suc (length p)) h p 0) ps
