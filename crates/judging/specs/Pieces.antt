-- A judge that gets a tape in pieces, over any state that it is given. (What is behind bytes, and behind pieces:
-- judge_pieces/specs/Bytes. From `at_first` on it is Verdict's judgement: proofs/Whole.)
use Rattle.std.specs.Prelude.{ℕ, min, List, [], ◌∷◌, length, take, replicate}
use Rattle.kernel.specs.View.{pad}
use Rattle.judge_verdict.specs.declared.Judgement.{Judgement}
use Rattle.judge_verdict.specs.Behind.{at_end}
use Rattle.judge_pieces.specs.declared.Run.{Run}
use Rattle.judge_pieces.specs.Bytes.{Pending, bytes, at_start}
use Rattle.judging.specs.declared.Judge.{Judge}

-- what a judge stands for
abbrev pub pending_of : Judge → Pending
pending_of j = record { run = j.run; begun = take (min 15 j.count) j.held }

-- and the judge that stands for it
abbrev pub judge_of : Pending → Judge
judge_of h = record { run = h.run; held = pad 16 h.begun; count = length h.begun }

-- The judge before the first byte: the fresh machine's tables.
unfoldable pub at_first : Judge
at_first =
    record {
      run = at_start;
      held = replicate 16 0;
      count = 0;
    }

-- A piece more.
unfoldable pub fed : Judge → List ℕ → Judge
fed j piece = judge_of (bytes (pending_of j) piece)

-- The whole records of a list, and what is left of it.
unfoldable pub through : Run → List ℕ → Judge
through x l = judge_of (bytes (record { run = x; begun = [] }) l)

-- The end of the tape.
unfoldable pub ended : Judge → Judgement
ended j = record { seed = j.run.seed; verdict = at_end j.run.verdict j.run.place j.count }

-- Pieces, one after another, to the end of the tape.
unfoldable pub judged_in : Judge → List (List ℕ) → Judgement
judged_in j [] = ended j
judged_in j (p ∷ ps) = judged_in (fed j p) ps
