-- Bodies that end in an exception (change request 6). An exception moves no task: it is remembered beside the machine
-- until an answer names its task as running. So all that stands here is built on the rules' step, and changes none of
-- it.
use Rattle.std.specs.Prelude.{ℕ, ◌+◌, ◌-◌, ◌/◌, ◌%◌, ◌^◌, Bool, cond, not, ◌&&◌, ◌||◌, List, [], ◌∷◌, eqb, ltb}
use Rattle.rules.specs.Line.{at, all_below}
use Rattle.rules.specs.Machine.{Machine, Command, task_count, runner, running}
use Rattle.rules.specs.Machine as M
use Rattle.rules.specs.declared.Whose.{Whose}
use Rattle.rules.specs.declared.Whose.TheVariants.{Nobody, Runner, Released}
use Rattle.rules.specs.declared.Kind.{Kind}
use Rattle.rules.specs.declared.Kind.TheVariants.{NoKind, Creating, Declaring, Starting, Delaying}
use Rattle.rules.specs.declared.Kind.TheVariants.{Waking, Advancing, Opening, Entering, Ending}
use Rattle.rules.specs.Kinds.{kind}
use Rattle.rules.specs.Refusals.{refusal}
use Rattle.rules.specs.Run.{accepts, released}
use Rattle.rules.specs.Run as R
use Rattle.rules.specs.Sound as S

-- A machine, and its pending exceptions: bit t is 1 where one was set for task t and no answer has shown it yet.
pub record State : Type 0 where
  pub machine : Machine
  pub pending : ℕ

-- Whether task t has one pending: bit t of the number.
abbrev pub has : ℕ → ℕ → Bool
has p t = eqb (p / 2 ^ t % 2) 1

-- One more is set, for task t, where 0 is nobody. Where one is pending the older is kept: nothing changes.
abbrev pub raised : ℕ → ℕ → ℕ
raised p t = cond (eqb t 0 || has p t) p (p + 2 ^ t)

-- That of task t is pending no more.
abbrev pub cleared : ℕ → ℕ → ℕ
cleared p t = cond (has p t) (p - 2 ^ t) p

-- Whose exception a command sets: only the end of a body sets one.
abbrev pub whose_of : Kind → Whose
whose_of NoKind = Nobody
whose_of Creating = Nobody
whose_of Declaring = Nobody
whose_of Starting = Nobody
whose_of Delaying = Nobody
whose_of Waking = Nobody
whose_of Advancing = Nobody
whose_of Opening = Nobody
whose_of Entering = Nobody
whose_of (Ending e) = e.whose

-- Whose, as a task number: by who ran before the command, and whom it released. 0 is nobody.
abbrev pub task_of : Whose → ℕ → ℕ → ℕ
task_of Nobody closer freed = 0
task_of Runner closer freed = closer
task_of Released closer freed = freed

-- The task that a command, accepted, sets an exception for: the runner, or the task that it releases; 0 for nobody.
abbrev pub owner : Machine → Command → ℕ
owner m c = task_of (whose_of (kind c)) (runner m) (released m c)

-- What is pending when a command has been carried out, and its answer is not yet given.
abbrev pub pending_then : State → Command → ℕ
pending_then s c = raised s.pending (owner s.machine c)

-- The state after a command. Its answer, if it is accepted, shows the exception of the task that it names as running,
-- and so clears it. A refused command changes nothing.
unfoldable pub next : State → Command → State
next s c =
    let m = R.next s.machine c in
    cond (accepts s.machine c) (record { machine = m; pending = cleared (pending_then s c) (running m) }) s

-- The answer: the rules', and whether it shows an exception of the running task.
pub record Answer : Type 0 where
  pub code : ℕ
  pub running : ℕ
  pub released : ℕ
  pub exception : Bool

unfoldable pub answer : State → Command → Answer
answer s c =
    let m = R.next s.machine c in
    record {
      code = refusal s.machine c;
      running = running m;
      released = released s.machine c;
      exception = accepts s.machine c && has (pending_then s c) (running m);
    }

-- A run: the state behind some commands, and the answers on the way.
unfoldable pub run : State → List Command → State
run s [] = s
run s (c ∷ cs) = run (next s c) cs

unfoldable pub answers : State → List Command → List Answer
answers s [] = []
answers s (c ∷ cs) = answer s c ∷ answers (next s c) cs

-- The fresh machine has none.
abbrev pub fresh : State
fresh = record { machine = M.fresh; pending = 0 }

-- Pending exceptions are sound: of created tasks 1..31 only, and none before Start. (A task is created where
-- its base is not 0.)
unfoldable pub pending_sound : Bool → List ℕ → ℕ → Bool
pending_sound started base p =
    ltb p (2 ^ task_count)
    && all_below task_count (λ t. not (has p t) || started && not (eqb t 0) && not (eqb (at base t) 0))

-- A saved state is sound: the machine is, and its pending exceptions are.
unfoldable pub sound : State → Bool
sound s = S.sound s.machine && pending_sound s.machine.started s.machine.base s.pending
