-- A line of input carried out: the state behind it, and the row that is printed for it.
use Rattle.std.specs.Prelude.{ℕ, ◌+◌, cond, ◌≡◌, List, [], ◌∷◌, eqb, ltb}
use Rattle.rules.specs.Machine.{Command}
use Rattle.kernel.specs.declared.Kernel.{Kernel}
use Rattle.kernel.specs.declared.command.Answer.{Answer}
use Rattle.kernel.specs.Public.{answer_of, step_of, running_of}
use Rattle.text.specs.declared.Spoken.{Spoken}
use Rattle.text.specs.declared.Row.{Row}
use Rattle.text.specs.Commands.{command_of}

-- Lines are numbered from 1, each one more than the last. (2^64-1 would be followed by itself: no input has so many
-- lines.)
abbrev pub following : ℕ → ℕ
following n = cond (ltb n 18446744073709551615) (n + 1) n

-- the command that a line's numbers say
abbrev pub asked : Spoken → Command
asked s = record { op = s.op; a = s.a; b = s.b; value = s.value }

-- A line that says a command (code 0) is a step of the kernel. A line refused with 14 changes nothing;
unfoldable pub state_behind : Kernel → Spoken → Kernel
state_behind k s = cond (eqb s.code 0) (step_of k (asked s)).next k

-- it is answered with its code, the running task as it stands, and nobody released.
unfoldable pub answer_to : Kernel → Spoken → Answer
answer_to k s = cond (eqb s.code 0) (step_of k (asked s)).answer (answer_of s.code (running_of k) 0)

-- the state behind lines, one after another
unfoldable pub state_after : Kernel → List (List ℕ) → Kernel
state_after k [] = k
state_after k (l ∷ ls) = state_after (state_behind k (command_of l)) ls

-- The row: the line's number, what the line says (zeros where it is refused with 14), the answer, and the clock
-- behind it.
abbrev pub row_of : ℕ → Spoken → Answer → ℕ → Row
row_of n s a clock =
    record {
      n = n;
      op = s.op;
      a = s.a;
      b = s.b;
      value = s.value;
      code = a.code;
      running = a.running.0;
      released = a.released.0;
      clock = clock;
    }

abbrev pub row_for : Kernel → ℕ → Spoken → Row
row_for k n s = row_of n s (answer_to k s) (state_behind k s).clock

-- a line carried out where the tables lie: they are left as the state behind it, and the row is answered
abbrev pub CarriesOut : Kernel → ℕ → Spoken → Row → Kernel → Type 0
CarriesOut k n s r left = (left ≡ state_behind k s) × (r ≡ row_for k n s)
