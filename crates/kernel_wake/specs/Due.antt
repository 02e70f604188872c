-- Whom a Wake releases.
use Rattle.std.specs.Prelude.{ℕ, cond, List, leb}
use Rattle.rules.specs.Line.{at}
use Rattle.kernel_line.specs.Tables.{time_in}

-- The task that a Wake wakes: the first of the delay line, if its time is at most the clock; 0 for nobody.
abbrev pub due_in : List ℕ → List ℕ → ℕ → ℕ
due_in delayed until clock = cond (leb (time_in until (at delayed 0)) clock) (at delayed 0) 0
