-- What salvage does, as far as a contract can say it (crate programs_flow, specs/Loops): in which state it is behind
-- the pieces that were read, how many bytes its writes took, to the new tape and to standard output together, and why
-- it ends.
--
-- These wrong programs meet all of it, and only runs refuse them (host/io.py, the stored cases): those that
-- programs_flow/specs/Loops names; one that writes the kept records to standard output and the list to the new tape;
-- one that syncs another file, or none; one that leaves a file behind where it fails, names another one or none, or
-- replaces one that is there; one that opens the old tape for writing; one that answers 2 or 3 though nothing failed;
-- one that tells its progress where there is no terminal, or never.
use Rattle.std.specs.Prelude.{ℕ, ◌+◌, ◌-◌, ◌/◌, true, ◌≡◌, List, [], ◌++◌, ◌⊎◌, length}
use Rattle.programs_flow.specs.declared.State.TheVariants.{GoesOn, Ended}
use Rattle.programs_flow.specs.declared.Went.{Went}
use Rattle.programs_flow.specs.Flow.{has_failed}
use Rattle.programs_flow.specs.Loops.{After, Text, NoneEmpty}
use Rattle.salvage_marks.specs.declared.Torn.{Torn}
use Rattle.salvage_marks.specs.declared.Stretch.{Stretch}
use Rattle.salvage_marks.specs.Torn.{kept, dropped, found, headed, cells, total, closed}
use Rattle.salvage_marks.specs.Pieces.{at_first, written, listed, after, held, last_of}
use Rattle.rules.specs.Line.{joined}
use Rattle.salvage_text.specs.Lines.{list_text, last_text}

-- ---- pieces

-- Between two pieces: the salvage of what is decided, the bytes that are held, and how many bytes were kept.
pub record Between : Type 0 where
  pub torn : Torn
  pub held : List ℕ
  pub kept : ℕ

abbrev pub before_all : Between
before_all = record { torn = at_first; held = []; kept = 0 }

-- What is written of a piece to the new tape, and what is listed of it.
abbrev pub kept_of : Text Between
kept_of s p = written s.torn (s.held ++ p)

abbrev pub lines_of : Text Between
lines_of s p = list_text (cells (listed s.torn (s.held ++ p)))

abbrev pub both_of : Text Between
both_of s p = kept_of s p ++ lines_of s p

-- The state behind a piece.
abbrev pub then : After Between
then s p =
    record {
      torn = after s.torn (s.held ++ p);
      held = held s.torn (s.held ++ p);
      kept = s.kept + length (kept_of s p);
    }

-- ---- the end

-- The numbers of the last stretch: none where it is empty.
abbrev pub numbers_of : Stretch → List ℕ
numbers_of x = cells (closed x.first (x.first + x.size) [])

-- The last line: how many bytes were kept, 16 a record, and how many of all were not.
abbrev pub last_line : Torn → ℕ → ℕ → List ℕ
last_line torn held kept = last_text (kept / 16) (torn.place + held - kept) torn.headed

-- What is printed at the end, where so many bytes are held and so many were kept.
abbrev pub end_of : Torn → ℕ → ℕ → List ℕ
end_of torn held kept = list_text (numbers_of (last_of torn held)) ++ last_line torn held kept

-- The lines of a whole tape: its dropped stretches, and the last line.
unfoldable pub lines : List ℕ → List ℕ
lines tape = list_text (cells (dropped tape)) ++ last_text (length (found tape)) (total (dropped tape)) (headed tape)

-- All was read, nothing failed, and of some pieces, none of them empty, all was taken: the kept records of the tape
-- that they are, and its lines.
abbrev pub AllTaken : Went → Type 0
AllTaken went =
    (went.state ≡ Ended)
    × ((ps : List (List ℕ)) × NoneEmpty ps × (went.sent ≡ length (kept (joined ps)) + length (lines (joined ps))))

-- That; or a read or a write failed; or all turns are used up.
abbrev pub Salvaged : Went → Type 0
Salvaged went = AllTaken went ⊎ (has_failed went.state ≡ true) ⊎ (went.state ≡ GoesOn)

-- Behind the pieces, where the work stands so: 0 only where all was taken, else 3.
abbrev pub NamedOrFailed : Went → ℕ → Type 0
NamedOrFailed w r = ((r ≡ 0) × AllTaken w) ⊎ (r ≡ 3)

-- Salvage answers 0, 2 or 3.
abbrev pub DoneRefusedFailed : ℕ → Type 0
DoneRefusedFailed r = (r ≡ 0) ⊎ (r ≡ 2) ⊎ (r ≡ 3)
