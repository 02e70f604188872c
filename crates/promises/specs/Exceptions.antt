-- What was promised of exceptions, over the step of the whole state that is shipped: `step_of s (to_rules c)` is what
-- State::step answers (its contract is the equation), `encode fresh` what State::fresh does. The words `Unshown`,
-- `SetUnshown` and `sets` are those of rules_exceptions/specs/Words. The proofs: proofs/Exceptions.
use Rattle.std.specs.Prelude.{ℕ, ◌≡◌, ◌≢◌, ◌↔◌, ◌⊎◌, true, false, List, [], ◌∷◌, map}
use Rattle.rules.specs.Kinds.{kind}
use Rattle.rules.proofs.Words.{All, cmd}
use Rattle.rules_exceptions.specs.Exceptions.{has, owner, whose_of, task_of, run, fresh}
use Rattle.rules_exceptions.specs.Words.{matching, sets, Unshown, SetUnshown}
use Rattle.kernel_checks.specs.declared.Command.{Command}
use Rattle.kernel.specs.declared.command.Answer as tables
use Rattle.kernel.specs.Public.{to_rules, running_of}
use Rattle.kernel_state.specs.declared.State.{State}
use Rattle.kernel_state.specs.declared.Stepped.{Stepped}
use Rattle.kernel_state.specs.declared.Answer.{Answer}
use Rattle.kernel_state.specs.Public.{view, encode, is_sound, report, shape, step_of}
use Rattle.promises.specs.Words.{fresh_of, run_of, answers_of, moments_of}

-- What State::fresh and State::step answer; a run of that step, its answers and its moments; and the answer to one
-- command more behind it.
unfoldable pub fresh_state : State
fresh_state = encode fresh

abbrev pub stepped_state : State → Command → Stepped
stepped_state s c = step_of s (to_rules c)

unfoldable pub run_state : State → List Command → State
run_state s [] = s
run_state s (c ∷ cs) = run_state (stepped_state s c).next cs

unfoldable pub answers_state : State → List Command → List Answer
answers_state s [] = []
answers_state s (c ∷ cs) = (stepped_state s c).answer ∷ answers_state (stepped_state s c).next cs

unfoldable pub moments_state : State → List Command → List State
moments_state s [] = s ∷ []
moments_state s (c ∷ cs) = s ∷ moments_state (stepped_state s c).next cs

abbrev pub answer_behind : State → List Command → Command → Answer
answer_behind s cs d = (stepped_state (run_state s cs) d).answer

-- ## Soundness
-- The fresh state is sound; a step from a sound state leaves a sound state.
-- Rules out: an exception that is left with idle or with a task that is not there. Leaves: one that is never shown (the
-- promise below).
abbrev pub FreshStateIsSound : Type 0
FreshStateIsSound = is_sound fresh_state ≡ true

abbrev pub StateStepKeepsSound : Type 0
StateStepKeepsSound = (s : State) (c : Command) → is_sound s ≡ true → is_sound (stepped_state s c).next ≡ true

abbrev pub StateRunIsSound : Type 0
StateRunIsSound = (s : State) (cs : List Command) → is_sound s ≡ true → is_sound (run_state s cs) ≡ true

-- A state that is not sound is answered 1, 0, 0 and no exception, and comes back as it is.
abbrev pub UnsoundStateComesBack : Type 0
UnsoundStateComesBack = (s : State) (c : Command) → is_sound s ≡ false → stepped_state s c ≡ report s shape

-- ## Tasks move as without exceptions
-- Of a sound state the tables behind a run, at each of its moments, and the code, the running task and the released task
-- of each of its answers are those of Kernel::step on the tables alone; and the fresh state's tables are the fresh
-- tables. So whatever is promised of runs of Kernel::step (Promises: both long promises among it, which hold for any
-- commands, ops 12 to 15 too) holds of runs of State::step.
-- Rules out: an exception that moves a task, refuses a command or keeps an object. Leaves: what is shown (below).
abbrev pub plain : Answer → tables.Answer
plain a = record { code = a.code; running = a.running; released = a.released }

abbrev pub FreshTables : Type 0
FreshTables = fresh_state.kernel ≡ fresh_of

abbrev pub RunsMoveAlike : Type 0
RunsMoveAlike =
    (s : State) (cs : List Command) → is_sound s ≡ true
    → ((run_state s cs).kernel ≡ run_of s.kernel cs)
    × (map plain (answers_state s cs) ≡ answers_of s.kernel cs)
    × (map (λ z. z.kernel) (moments_state s cs) ≡ moments_of s.kernel cs)

-- Tasks move by 12, 13, 14 and 15 as by 8, 9, 11 and 8, of every state and with all operands: the tables behind the
-- step and all of the answer but the exception are the same. And where one is pending for whose it is, all is the same:
-- a second changes nothing. (`matching` has the pairs: rules_exceptions/specs/Words.)
-- Rules out: a failing end with a rule, or a refusal, of its own; a second exception that counts. Leaves: that the first
-- is shown (below).
abbrev pub ClosingsMoveAlike : Type 0
ClosingsMoveAlike =
    All {A = ℕ × ℕ} (λ x. (s : State) (a b v : ℕ) →
    let r = step_of s (cmd x.0 a b v) in let q = step_of s (cmd x.1 a b v) in
    (r.next.kernel ≡ q.next.kernel) × (plain r.answer ≡ plain q.answer)) matching

abbrev pub SecondChangesNothing : Type 0
SecondChangesNothing =
    All {A = ℕ × ℕ} (λ x. (s : State) (a b v : ℕ) → has s.pending (owner (view s).machine (cmd x.0 a b v)) ≡ true
    → step_of s (cmd x.0 a b v) ≡ step_of s (cmd x.1 a b v)) matching

-- ## Whose it is
-- The task that an accepted command sets one for, by what a caller sees: who ran before the command, or whom its answer
-- names as released; 0 is nobody. (By 12, 13 and 14 the one, by 15 the other: `whose_of` of the kind.)
-- Rules out: that it goes to who runs after the command instead of who ran before it. Leaves: when it is shown (next).
abbrev pub WhoseItIs : Type 0
WhoseItIs =
    (s : State) (c : Command) → is_sound s ≡ true → (stepped_state s c).answer.code ≡ 0
    → owner (view s).machine (to_rules c)
    ≡ task_of (whose_of (kind (to_rules c))) (running_of s.kernel) (stepped_state s c).answer.released.0

-- ## The promise on exceptions
-- Over any run from any sound state, of the answer to any command d that names task t, not idle, as running: it shows
-- an exception just when it is accepted, and one was set for t, by d itself or before, or was pending at the start, and
-- no accepted answer since then names t as running. So an exception that is set for t is shown on the first accepted
-- answer from then on that names t, and on no other; none is shown that was not set; and a refusal shows none.
-- Rules out: one that is shown twice, never, late, to another task, or on a refusal. Leaves: whose it is (above).
abbrev pub ShownExactly : Type 0
ShownExactly =
    (s : State) (cs : List Command) (d : Command) → is_sound s ≡ true
    → let a = answer_behind s cs d in let t = a.running.0 in
    t ≢ 0 → (a.exception ≡ true)
    ↔ ((a.code ≡ 0)
    × (Unshown t (view s) (map to_rules cs) ⊎ (sets (run (view s) (map to_rules cs)) (to_rules d) t ≡ true)))

-- None is shown while idle runs.
-- Rules out: an exception of nobody. Leaves: the others' (above).
abbrev pub IdleShowsNone : Type 0
IdleShowsNone =
    (s : State) (cs : List Command) (d : Command) → is_sound s ≡ true
    → (answer_behind s cs d).running.0 ≡ 0 → (answer_behind s cs d).exception ≡ false

-- From the fresh machine: an answer that shows one is accepted, and a command of the run, or d itself, has set it, for
-- the task that it names, and no accepted answer since names that task.
-- Rules out: an exception out of nothing. Leaves: that it is shown (ShownExactly).
abbrev pub NoneUnset : Type 0
NoneUnset =
    (cs : List Command) (d : Command) → let a = answer_behind fresh_state cs d in let t = a.running.0 in
    a.exception ≡ true
    → (t ≢ 0) × (a.code ≡ 0)
    × (SetUnshown t fresh (map to_rules cs) ⊎ (sets (run fresh (map to_rules cs)) (to_rules d) t ≡ true))

-- A refused command changes nothing: the state is the same, with all that is pending, and none is shown.
-- Rules out: a refusal that shows an exception, or drops it. Leaves: which commands are refused (the contract).
abbrev pub RefusedKeepsAll : Type 0
RefusedKeepsAll =
    (s : State) (c : Command) → (stepped_state s c).answer.code ≢ 0
    → ((stepped_state s c).next ≡ s) × ((stepped_state s c).answer.exception ≡ false)
