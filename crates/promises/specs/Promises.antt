-- What three engineers were promised, over the step that is shipped: each promise in plain words, and then in antt.
-- The proofs: proofs/Promises, a theorem for each. `stepped k c` is what Kernel::step answers (its contract is the
-- equation), `fresh_of` what Kernel::fresh does, `left_of` what Kernel::wakes_left does; `run_of fresh_of before` is the
-- state behind any commands whatever, unknown ops and bad operands among them.
use Rattle.std.specs.Prelude.{ℕ, suc, ◌-◌, ◌≤◌, ◌<◌, ◌≡◌, ◌≢◌, ◌↔◌, true, false, List, replicate}
use Rattle.rules.specs.Line.{at}
use Rattle.rules.proofs.Words.{All, Among, serving_ops, releasing_ops}
use Rattle.kernel.specs.declared.Kernel.{Kernel}
use Rattle.kernel_checks.specs.declared.Command.{Command}
use Rattle.kernel.specs.Public.{is_sound, report, shape, stepped, running_of, left_of}
use Rattle.promises.specs.Words.{fresh_of, run_of, answers_of, moments_of, woke_by, wakes_of, a_wake, DueIn}

-- ## Soundness
-- The fresh state is sound; a step from a sound state leaves a sound state; so 1 is never answered in a run from the
-- fresh state.
-- Rules out: a step that loses a task, doubles it, or puts a line out of order. Leaves: one that does nothing (the
-- contract of the step).
abbrev pub FreshIsSound : Type 0
FreshIsSound = is_sound fresh_of ≡ true

abbrev pub StepKeepsSound : Type 0
StepKeepsSound = (k : Kernel) (c : Command) → is_sound k ≡ true → is_sound (stepped k c).next ≡ true

abbrev pub RunIsSound : Type 0
RunIsSound = (cs : List Command) → is_sound (run_of fresh_of cs) ≡ true

-- A refused command (a code that is not 0) keeps the state; a state that is not sound is answered 1, 0, 0 and comes
-- back as it is.
-- Rules out: a refusal that ticks, moves a task or tidies a table. Leaves: which commands are refused (the contract of
-- the step).
abbrev pub RefusedChangesNothing : Type 0
RefusedChangesNothing = (k : Kernel) (c : Command) → (stepped k c).answer.code ≢ 0 → (stepped k c).next ≡ k

abbrev pub UnsoundComesBack : Type 0
UnsoundComesBack = (k : Kernel) (c : Command) → is_sound k ≡ false → stepped k c ≡ report k shape

-- ## The promise on Wakes
-- Whenever task t stands at index r of the delay line with its time at most the clock: count the accepted Wakes (op 5,
-- code 0) after that moment. While there are at most r of them, t stays in the line, at index r less their count, and
-- no answer releases it; and the (r+1)th of them releases it.
-- Rules out: a past delay at the front of the line, a Wake that skips or drops an entry, a kernel that works once and
-- then pretends.
-- Leaves: one that refuses every Wake (the contract of the step: 1, 4 and 2 alone refuse it); ties in the wrong order
-- (the contract again).
abbrev pub KeepsItsTurn : Kernel → List Command → ℕ → ℕ → Type 0
KeepsItsTurn k after t r =
    DueIn k t r → wakes_of k after ≤ r
    → DueIn (run_of k after) t (r - wakes_of k after) × All (λ a. a.released.0 ≢ t) (answers_of k after)

abbrev pub ThenReleased : Kernel → List Command → ℕ → ℕ → Command → Type 0
ThenReleased k after t r c =
    DueIn k t r → wakes_of k after ≡ r → woke_by (run_of k after) c ≡ true
    → (stepped (run_of k after) c).answer.released.0 ≡ t

abbrev pub WakesPromise : Type 0
WakesPromise = (before after : List Command) (t r : ℕ) → KeepsItsTurn (run_of fresh_of before) after t r

abbrev pub WakesPromiseKept : Type 0
WakesPromiseKept =
    (before after : List Command) (t r : ℕ) (c : Command) → ThenReleased (run_of fresh_of before) after t r c

-- It holds of every sound state, so of a saved one that comes in too; the runs from the fresh state are the case that
-- was promised.
abbrev pub WakesPromiseSound : Type 0
WakesPromiseSound = (k : Kernel) (after : List Command) (t r : ℕ) → is_sound k ≡ true → KeepsItsTurn k after t r

abbrev pub WakesPromiseSoundKept : Type 0
WakesPromiseSoundKept =
    (k : Kernel) (after : List Command) (t r : ℕ) (c : Command) → is_sound k ≡ true → ThenReleased k after t r c

-- "Wakes left" is that count: its answer r + 1 says that t is due at index r, and its answer 0 that t is due at none;
-- of every sound state.
-- Rules out: a count that is one too high or too low, a made-up number. Leaves: the code of a refused question (the
-- contract).
abbrev pub WakesLeftSays : Type 0
WakesLeftSays = (k : Kernel) (t r : ℕ) → is_sound k ≡ true → ((left_of k t).left ≡ suc r) ↔ DueIn k t r

abbrev pub NoneLeftSays : Type 0
NoneLeftSays = (k : Kernel) (t : ℕ) → is_sound k ≡ true → ((left_of k t).left ≡ 0) ↔ ((r : ℕ) → DueIn k t r → ⊥)

-- Told from outside, after Start: the answer is r + 1 exactly if, of Wakes that follow one another, the (r+1)th
-- releases t.
-- Rules out: a kernel that refuses Wakes, or that releases whoever sleeps. Leaves: Wakes with other commands between
-- (the promise above).
abbrev pub SeenFrom : Kernel → ℕ → ℕ → Type 0
SeenFrom k t r =
    k.started ≡ true → t ≢ 0
    → ((left_of k t).left ≡ suc r) ↔ ((stepped (run_of k (replicate r a_wake)) a_wake).answer.released.0 ≡ t)

abbrev pub WakesLeftSeen : Type 0
WakesLeftSeen = (k : Kernel) (t r : ℕ) → is_sound k ≡ true → SeenFrom k t r

-- ## Who releases, and whom
-- An answer releases a task only for a Wake (5), or for an end of a body that has a barrier (8, 11, 12, 14, 15). Of
-- these ends, when accepted: with barrier 1 the task that waits on the object (0: none does), and nobody
-- waits there any more; with barrier 0 nobody, and who waits waits on.
-- Rules out: an entry's end that passes the waiter over, one that releases behind a shut barrier, a waiter that is
-- named and not let go.
-- Leaves: where the released task goes (the contract of the step), and when it runs (the promise on releases).
abbrev pub ReleasedByThese : Type 0
ReleasedByThese =
    (before : List Command) (c : Command) → let k = run_of fresh_of before in
    (stepped k c).answer.released.0 ≢ 0 → Among releasing_ops c.op

abbrev pub OpenServes : Type 0
OpenServes =
    (before : List Command) (c : Command) → let k = run_of fresh_of before in
    (stepped k c).answer.code ≡ 0 → Among serving_ops c.op → c.b ≡ 1
    → ((stepped k c).answer.released.0 ≡ at k.waiter c.a) × (at (stepped k c).next.waiter c.a ≡ 0)

abbrev pub ShutServesNobody : Type 0
ShutServesNobody =
    (before : List Command) (c : Command) → let k = run_of fresh_of before in
    (stepped k c).answer.code ≡ 0 → Among serving_ops c.op → c.b ≡ 0
    → ((stepped k c).answer.released.0 ≡ 0) × ((stepped k c).next.waiter ≡ k.waiter)

-- ## The promise on releases
-- Whenever an answer releases task t, be it for a Wake or the end of a body: there is one task `low` and one object
-- such that, at every later moment at which t has not run yet (the moment of the release among them), if a task of a
-- base below t's runs, then it is `low`; it held that object at the release, and has held it at every moment since, so
-- it has closed it at none of the commands between. `low` and the object are found at the release, before any later
-- command is known: so the tasks of lower base that run at any two such moments are one task. Bases are those at the
-- release: no command changes one after Start. Idle holds nothing, so it is never `low`.
-- Rules out: a closing runner that keeps its place, a second low task in between, a holder that loses its object
-- unclosed.
-- Leaves: a step that releases nobody (OpenServes above, and the walk), closings that do nothing, ceilings without
-- effect, a released task in front of its equals (the contract of the step; the rules' theorems closing-empties,
-- ahead-of-a-holder, woken-to-tail and served-to-tail).
abbrev pub ReleasePromise : Type 0
ReleasePromise =
    (before : List Command) (c : Command) → let k = run_of fresh_of before in
    let now = (stepped k c).next in let t = (stepped k c).answer.released.0 in
    t ≢ 0 → (low : ℕ) × (object : ℕ) × ((after : List Command) → All (λ s. running_of s ≢ t) (moments_of now after)
    → let then = run_of now after in at now.base (running_of then) < at now.base t
    → (running_of then ≡ low) × (object ≢ 0) × All (λ s. at s.held low ≡ object) (moments_of now after))

-- The same of two moments: whoever of lower base runs at the end of one way on from the release, and of another, is
-- one task.
-- Rules out: a low task that depends on what comes later. Leaves: that it holds an object (the promise itself).
abbrev pub OneLowerTask : Type 0
OneLowerTask =
    (before : List Command) (c : Command) (to-i to_j : List Command) → let k = run_of fresh_of before in
    let now = (stepped k c).next in let t = (stepped k c).answer.released.0 in
    t ≢ 0 → All (λ s. running_of s ≢ t) (moments_of now to-i) → All (λ s. running_of s ≢ t) (moments_of now to_j)
    → at now.base (running_of (run_of now to-i)) < at now.base t
    → at now.base (running_of (run_of now to_j)) < at now.base t
    → running_of (run_of now to-i) ≡ running_of (run_of now to_j)

-- Idle, which holds nothing, runs at no such moment.
-- Rules out: a released task that is put behind idle, or lost. Leaves: which of the others runs (the promise itself).
abbrev pub IdleDoesNotRun : Type 0
IdleDoesNotRun =
    (before : List Command) (c : Command) (after : List Command) → let k = run_of fresh_of before in
    let now = (stepped k c).next in let t = (stepped k c).answer.released.0 in
    t ≢ 0 → All (λ s. running_of s ≢ t) (moments_of now after) → running_of (run_of now after) ≢ 0
