-- A tape that comes byte by byte, and piece by piece, from any run on: the whole records so far, and the first bytes of
-- the next one.
use Rattle.std.specs.Prelude.{ℕ, cond, List, [], ◌∷◌, ◌++◌, eqb, length, None}
use Rattle.rules.specs.Machine.{fresh}
use Rattle.kernel.specs.View.{encode}
use Rattle.judge_pieces.specs.declared.Run.{Run}
use Rattle.judge_pieces.specs.Onward.{onward}

-- A judge as a list has it: the run, and the bytes of a record that is not whole yet.
pub record Pending : Type 0 where
  pub run : Run
  pub begun : List ℕ

-- A byte more: the sixteenth makes a record whole.
unfoldable pub byte : Pending → ℕ → Pending
byte h b =
    cond (eqb (length h.begun) 15) (record { run = onward h.run (h.begun ++ (b ∷ [])); begun = [] })
    (record { run = h.run; begun = h.begun ++ (b ∷ []) })

-- Bytes, one after another.
unfoldable pub bytes : Pending → List ℕ → Pending
bytes h [] = h
bytes h (b ∷ l) = bytes (byte h b) l

-- Pieces, one after another: each goes on from the run that the last one left, with the bytes that were begun.
unfoldable pub behind : Pending → List (List ℕ) → Pending
behind h [] = h
behind h (p ∷ ps) = behind (bytes h p) ps

-- The run before the first byte: the fresh machine's tables.
abbrev pub at_start : Run
at_start = record { kernel = encode fresh; place = 0; seed = 0; verdict = None }
