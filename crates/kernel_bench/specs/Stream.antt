-- What is timed: the shipped step over a stream of commands, and a number that gathers all its answers. Assumes
-- nothing.
use Rattle.std.specs.Prelude.{ℕ, zero, suc, ◌+◌, ◌*◌, ◌/◌, ◌%◌, ◌^◌, Bool, cond, List, length, min}
use Rattle.rules.specs.Line.{at}
use Rattle.rules_exceptions.specs.Exceptions.{fresh}
use Rattle.kernel_state.specs.declared.State.{State}
use Rattle.kernel_checks.specs.declared.Command.{Command}
use Rattle.kernel_state.specs.Public.{encode, step_of}
use Rattle.kernel.specs.Public.{to_rules}

-- what an exception that is shown adds
abbrev pub shown : Bool → ℕ
shown exception = cond exception 16777216 0

-- a number that changes with any answer, on top of what was gathered
abbrev pub mixed_of : ℕ → ℕ → ℕ → ℕ → Bool → ℕ
mixed_of sum code running released exception =
    ((sum % 576460752303423488 * 31 + sum / 576460752303423488) % 2 ^ 64
    + (code + 256 * running + 65536 * released + shown exception)) % 2 ^ 64

pub record Gathered : Type 0 where
  pub state : State
  pub total : ℕ

abbrev pub turn_of : Gathered → Command → Gathered
turn_of g c =
    let s = step_of g.state (to_rules c) in
    record {
      state = s.next;
      total = mixed_of g.total s.answer.code s.answer.running.0
          s.answer.released.0 s.answer.exception;
    }

-- the i-th command of a stream, and the stream's length: the least of the four
abbrev pub command_at : List ℕ → List ℕ → List ℕ → List ℕ → ℕ → Command
command_at ops a b values i = record { op = at ops i; a = at a i; b = at b i; value = at values i }

abbrev pub count_of : List ℕ → List ℕ → List ℕ → List ℕ → ℕ
count_of ops a b values = min (min (length ops) (length a)) (min (length b) (length values))

-- behind so many commands from the fresh machine
abbrev pub ran_of : List ℕ → List ℕ → List ℕ → List ℕ → ℕ → ℕ → Gathered
ran_of ops a b values sum zero = record { state = encode fresh; total = sum }
ran_of ops a b values sum (suc i) = turn_of (ran_of ops a b values sum i) (command_at ops a b values i)

-- all answers, and the clock at the end
unfoldable pub gathered : List ℕ → List ℕ → List ℕ → List ℕ → ℕ → ℕ
gathered ops a b values sum = let g = ran_of ops a b values sum (count_of ops a b values) in
    (g.total + g.state.kernel.clock) % 2 ^ 64
