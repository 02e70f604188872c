-- What is promised of bodies that end in an exception, each in plain words and then in antt, over every list of commands from every state: unknown
-- ops, bad operands, refused commands and all. Beside each: which wrong machines it rules out, and which it leaves to another. What is promised of the
-- machine itself stays promised (`runs_alike`). Assumes nothing.
use Prim.Native.Nat.{ℕ}
use mathlib.Core.Path.{◌≡◌, refl, sym, ap, ap₂, subst, ◌∙◌}
use mathlib.Core.Logic.{◌≢◌, ◌↔◌, ◌⊎◌, inl, inr}
use mathlib.Core.Bool.{Bool, true, false, cond, ◌||◌, or-true, and-false, true≢false}
use mathlib.Core.List.{List, [], ◌∷◌, ◌++◌, map}
use lib.Dec.{eqb, leb}
use borrow.Author.Tests.{eqb-true, eq-eqb, ne_eqb, leb-true}
use Rattle.rules.specs.Line.{count, all_below}
use Rattle.rules.specs.Machine.{Machine, Command, runner, running}
use Rattle.rules.specs.declared.Whose.{Whose}
use Rattle.rules.specs.declared.Whose.TheVariants.{Nobody, Runner, Released}
use Rattle.rules.specs.Kinds.{kind}
use Rattle.rules.specs.Refusals.{refusal}
use Rattle.rules.specs.Run.{accepts, released}
use Rattle.rules.specs.Run as R
use Rattle.rules.proofs.Words.{All, Among, cmd}
use Rattle.rules.proofs.Tests.{both_true}
use Rattle.rules.proofs.Accepted.{each_op}
use Rattle.rules_exceptions.specs.Exceptions.{State, has, raised, cleared, owner, whose_of, task_of, pending_then, next, Answer, answer, run, answers}
use Rattle.rules_exceptions.specs.Exceptions.{fresh, sound}
use Rattle.rules_exceptions.specs.Words.{matching, names, sets, Silent, Unshown, from_start, set_by, SetUnshown}
use Rattle.rules_exceptions.proofs.Bits.{has_none, has_set, has_idle, raised_kept}
use Rattle.rules_exceptions.proofs.Kept.{tests_state, idle_none, fresh_sound, next_sound, run_sound}
use Rattle.rules_exceptions.proofs.Shown.{step_has, run_idle, run_runner, pending_unshown, set_on_the_way}

-- ## Tasks move as ever
-- Ops 12 and 15 move tasks as closep does, 13 as closef, 14 as done: on every machine and with all operands the state behind is the same, and so is the
-- answer, refusals and all.
-- Rules out: an exception that costs the runner its place, or keeps the object; a refusal of its own. Leaves: what the exception itself does (below).
pub moves_alike :
    All {A = ℕ × ℕ} (λ x. (m : Machine) (a b v : ℕ)
    → (R.next m (cmd x.0 a b v) ≡ R.next m (cmd x.1 a b v)) × (R.answer m (cmd x.0 a b v) ≡ R.answer m (cmd x.1 a b v)))
    matching
unfolding R.next R.released R.answer refusal
moves_alike = (λ m a b v. (refl, refl), (λ m a b v. (refl, refl), (λ m a b v. (refl, refl), (λ m a b v. (refl, refl), tt))))

-- Beside its pending exceptions a machine moves, and answers, as without them, by one command and along a run.
-- Rules out: a pending exception that moves a task, or refuses a command. Leaves: nothing of the machine.
pub machine_moves : (s : State) (c : Command) → (next s c).machine ≡ R.next s.machine c
unfolding next R.next
machine_moves s c = go (accepts m c) refl
  where
    m : Machine
    m = s.machine

    go : (b : Bool) → accepts m c ≡ b
        → (cond b (record { machine = R.next m c; pending = cleared (pending_then s c) (running (R.next m c)) }) s).machine ≡ R.next m c
    go true e = refl
    go false e = rw e

-- (the answer without what it says of exceptions)
abbrev pub plain : Answer → R.Answer
plain a = record { code = a.code; running = a.running; released = a.released }

pub answers_alike : (s : State) (c : Command) → plain (answer s c) ≡ R.answer s.machine c
unfolding answer R.answer
answers_alike s c = refl

pub runs_alike : (cs : List Command) (s : State) → (run s cs).machine ≡ R.run s.machine cs
unfolding run R.run
runs_alike [] s = refl
runs_alike (c ∷ cs) s = runs_alike cs (next s c) ∙ ap (λ (m : Machine). R.run m cs) (machine_moves s c)

pub all_answers_alike : (cs : List Command) (s : State) → map plain (answers s cs) ≡ R.answers s.machine cs
unfolding answers R.answers
all_answers_alike [] s = refl
all_answers_alike (c ∷ cs) s =
    ap₂ (λ (a : R.Answer) (l : List R.Answer). a ∷ l) (answers_alike s c)
    (all_answers_alike cs (next s c) ∙ ap (λ (m : Machine). R.answers m cs) (machine_moves s c))

-- So whatever holds of the machine behind a run holds of it beside its pending exceptions. (Of all answers and moments of a run of the shipped step:
-- promises/proofs/Exceptions, runs-move-alike.)
pub promised_still : (P : Machine → Type 0) (s : State) (cs : List Command) → P (R.run s.machine cs) → P (run s cs).machine
promised_still P s cs p = subst P (sym (runs_alike cs s)) p

-- ## Sound states
-- The fresh machine has none pending, and a step from a sound state leaves a sound one: what is pending is of created tasks 1..31, and of a started
-- machine.
-- Rules out: an exception that is set for idle, or for a task that is not there. Leaves: that one is set at all (below).
pub fresh_is_sound : sound fresh ≡ true
fresh_is_sound = (tests_state fresh).found fresh_sound

pub step_keeps_sound : (s : State) (c : Command) → sound s ≡ true → sound (next s c) ≡ true
step_keeps_sound s c e = (tests_state (next s c)).found (next_sound s ((tests_state s).sure e) c)

pub run_keeps_sound : (s : State) (cs : List Command) → sound s ≡ true → sound (run s cs) ≡ true
run_keeps_sound s cs e = (tests_state (run s cs)).found (run_sound cs s ((tests_state s).sure e))

-- ## Whose it is
-- By 12, 13 and 14 it is the runner's, by 15 the released task's, 0 if none was; no other command sets one.
-- Rules out: a waiter's exception that the closer gets; closings without one that set one. Leaves: when it is shown (below).
pub whose_exception : (m : Machine) (a b v : ℕ) →
    (owner m (cmd 12 a b v) ≡ runner m) × (owner m (cmd 13 a b v) ≡ runner m) × (owner m (cmd 14 a b v) ≡ runner m)
    × (owner m (cmd 15 a b v) ≡ released m (cmd 15 a b v))
whose_exception m a b v = (refl, refl, refl, refl)

pub set_by_these : (m : Machine) (c : Command) → owner m c ≢ 0 → Among (12 ∷ 13 ∷ 14 ∷ 15 ∷ []) c.op
unfolding all_below
set_by_these m c n = go (whose_of (kind c)) (each_op (λ op k. nobodys (whose_of k) || leb 1 (count op failing)) refl (λ op. refl) c.op) n
  where
    failing : List ℕ
    failing = 12 ∷ 13 ∷ 14 ∷ 15 ∷ []

    nobodys : Whose → Bool
    nobodys Nobody = true
    nobodys Runner = false
    nobodys Released = false

    go : (w : Whose) → (nobodys w || leb 1 (count c.op failing)) ≡ true → task_of w (runner m) (released m c) ≢ 0 → Among failing c.op
    go Nobody e n = absurd (n refl)
    go Runner e n = leb-true _ _ e
    go Released e n = leb-true _ _ e

-- One for nobody changes nothing; nor does one for a task with one pending, which keeps the older: then 12, 13, 14 and 15 leave the very state, and
-- give the very answer, that 8, 9, 11 and 8 do.
-- Rules out: a second that is counted, or is set for another task. Leaves: that the older is shown (below).
pub nobodys_changes_nothing : (s : State) (c : Command) → owner s.machine c ≡ 0 → pending_then s c ≡ s.pending
nobodys_changes_nothing s c e = ap (raised s.pending) e

pub second_changes_nothing :
    All {A = ℕ × ℕ} (λ x. (s : State) (a b v : ℕ) → has s.pending (owner s.machine (cmd x.0 a b v)) ≡ true
    → (next s (cmd x.0 a b v) ≡ next s (cmd x.1 a b v)) × (answer s (cmd x.0 a b v) ≡ answer s (cmd x.1 a b v)))
    matching
unfolding next answer R.next R.released refusal
second_changes_nothing = (
  λ s a b v h. rw (raised_kept s.pending (runner s.machine) h) (refl, refl),
  (
    λ s a b v h. rw (raised_kept s.pending (runner s.machine) h) (refl, refl),
    (
      λ s a b v h. rw (raised_kept s.pending (runner s.machine) h) (refl, refl),
      (λ s a b v h. rw (raised_kept s.pending (released s.machine (cmd 15 a b v)) h) (refl, refl), tt),
    ),
  ),
)

-- A refused command sets none, shows none and clears none.
-- Rules out: a refusal that shows, or drops, the runner's. Leaves: which commands are refused (the rules).
pub refused_keeps : (s : State) (c : Command) → (answer s c).code ≢ 0 → (next s c ≡ s) × ((answer s c).exception ≡ false)
unfolding next answer
refused_keeps s c n = rw (ne_eqb (refusal s.machine c) 0 n) (refl, refl)

-- ## The promise
-- One is pending for t exactly where it was set, or was pending when the run began, and no accepted answer from then on names t as running.
-- Rules out: one that is lost while others run, or kept when it was shown. Leaves: what an answer shows (next).
pub pending_is_unshown : (s : State) (cs : List Command) (t : ℕ) → t ≢ 0 → (has (run s cs).pending t ≡ true) ↔ Unshown t s cs
pending_is_unshown s cs t n = pending_unshown t n cs s

-- The answer of d, behind any run, shows one of the running task t exactly where it is accepted, and one was set for t, by d itself or before, or was
-- pending at the start, and no accepted answer since then names t.
-- Rules out: one that is shown twice, never, to another task, on a refusal, or an answer late. Leaves: whose it is (whose-exception above).
pub shown_exactly : (s : State) (cs : List Command) (d : Command) → let a = answer (run s cs) d in let t = a.running in
    t ≢ 0 → (a.exception ≡ true) ↔ ((a.code ≡ 0) × (Unshown t s cs ⊎ (sets (run s cs) d t ≡ true)))
unfolding answer
shown_exactly s cs d n = (λ e. shown (both_true _ _ e), λ w. rw (eq-eqb (refusal now.machine d) 0 w.0) (has_set now.pending f t n ∙ is_set w.1))
  where
    now : State
    now = run s cs

    t : ℕ
    t = running (R.next now.machine d)

    f : ℕ
    f = owner now.machine d

    shown : (accepts now.machine d ≡ true) × (has (pending_then now d) t ≡ true) → (refusal now.machine d ≡ 0) × (Unshown t s cs ⊎ (sets now d t ≡ true))
    shown w = (eqb-true _ _ w.0, go (has now.pending t) refl (sym (has_set now.pending f t n) ∙ w.1))
      where
        go : (b : Bool) → has now.pending t ≡ b → (has now.pending t || eqb f t) ≡ true → Unshown t s cs ⊎ (sets now d t ≡ true)
        go true h q = inl ((pending_unshown t n cs s).0 h)
        go false h q = inr (rw w.0 (rw h at q))

    is_set : Unshown t s cs ⊎ (sets now d t ≡ true) → (has now.pending t || eqb f t) ≡ true
    is_set (inl u) = rw ((pending_unshown t n cs s).1 u)
    is_set (inr q) = rw (both_true (accepts now.machine d) (eqb f t) q).1 (or-true (has now.pending t))

-- the same of the task that an accepted answer names
named_shows : (s : State) (cs : List Command) (d : Command) (t : ℕ) → t ≢ 0 → names (run s cs) d t ≡ true
    → Unshown t s cs ⊎ (sets (run s cs) d t ≡ true) → (answer (run s cs) d).exception ≡ true
unfolding answer
named_shows s cs d t n w u =
    let m = (run s cs).machine in
    let both = both_true (accepts m d) (eqb (running (R.next m d)) t) w in
    let r : running (R.next m d) ≡ t = eqb-true _ _ both.1 in
    (shown_exactly s cs d (λ z. n (sym r ∙ z))).1 (eqb-true _ _ both.0, rw r u)

-- So the first accepted answer that names t shows it: d, behind commands none of whose answers names t since c set it; and c's own answer, where that
-- names t. One that was pending at the start likewise.
-- Rules out: an answer that passes one over. Leaves: that an answer names t ever (the rules).
pub first_shows : (s : State) (before : List Command) (c : Command) (between : List Command) (d : Command) (t : ℕ)
    → let then = run s before in let now = run s (before ++ (c ∷ between)) in
    t ≢ 0 → sets then c t ≡ true → Silent t then (c ∷ between) → names now d t ≡ true → (answer now d).exception ≡ true
first_shows s before c between d t n f k w = named_shows s (before ++ (c ∷ between)) d t n w (inl (set_by before c between refl f k))

pub own_answer_shows : (s : State) (c : Command) (t : ℕ) → t ≢ 0 → sets s c t ≡ true → names s c t ≡ true → (answer s c).exception ≡ true
unfolding run
own_answer_shows s c t n f w = named_shows s [] c t n w (inr f)

pub left_shows : (s : State) (cs : List Command) (d : Command) (t : ℕ)
    → t ≢ 0 → has s.pending t ≡ true → Silent t s cs → names (run s cs) d t ≡ true → (answer (run s cs) d).exception ≡ true
left_shows s cs d t n e k w = named_shows s cs d t n w (inl (from_start e k))

-- And once: behind an accepted answer that names t none of t's is shown, until another is set.
-- Rules out: one that is shown twice. Leaves: that it is shown at all (above).
pub shown_once : (s : State) (d : Command) (between : List Command) (e : Command) (t : ℕ)
    → let now = run (next s d) between in
    t ≢ 0 → names s d t ≡ true → (answer now e).running ≡ t → (answer now e).exception ≡ true
    → SetUnshown t (next s d) between ⊎ (sets now e t ≡ true)
shown_once s d between e t n w r x = go (rw r at ((shown_exactly (next s d) between e (λ z. n (sym r ∙ z))).0 x).1)
  where
    now : State
    now = run (next s d) between

    clear : has (next s d).pending t ≡ false
    clear = step_has s d t n ∙ rw w (and-false (has s.pending t || sets s d t))

    go : Unshown t (next s d) between ⊎ (sets now e t ≡ true) → SetUnshown t (next s d) between ⊎ (sets now e t ≡ true)
    go (inl u) = inl (set_on_the_way clear u)
    go (inr f) = inr f

-- Who runs has none pending: the answer that named it has shown it. So from the fresh machine no runner ever sets a second one; a saved state may have
-- one pending for who runs, and then the next accepted answer that names it shows it (left-shows).
-- Rules out: a runner that goes on with one unshown. Leaves: those who do not run (pending-is-unshown above).
pub runner_has_none : (cs : List Command) → has (run fresh cs).pending (running (run fresh cs).machine) ≡ false
runner_has_none cs = run_runner cs fresh (has_none 0)

-- None is shown of idle: by no answer behind a sound state, nor behind any in which idle has none pending.
-- Rules out: an exception of nobody that is shown while idle runs. Leaves: the others' (above).
pub idle_never : (s : State) (cs : List Command) (d : Command) → has s.pending 0 ≡ false → (answer (run s cs) d).running ≡ 0
    → (answer (run s cs) d).exception ≡ false
unfolding answer
idle_never s cs d e r =
    let now = run s cs in
    let none : has (pending_then now d) (running (R.next now.machine d)) ≡ false =
    ap (λ (t : ℕ). has (pending_then now d) t) r ∙ (has_idle now.pending (owner now.machine d) ∙ run_idle cs s e) in
    rw none (and-false (accepts now.machine d))

-- So, from a sound state: an answer that shows one is accepted, and names a task, not idle, for which one was set and not shown since. And from the
-- fresh machine, where none is pending: one that a command of the run set.
-- Rules out: an exception out of nothing. Leaves: nothing of it.
pub none_unset : (s : State) (cs : List Command) (d : Command) → sound s ≡ true → let a = answer (run s cs) d in let t = a.running in
    a.exception ≡ true → (t ≢ 0) × (a.code ≡ 0) × (Unshown t s cs ⊎ (sets (run s cs) d t ≡ true))
none_unset s cs d e x =
    let n : (answer (run s cs) d).running ≢ 0 = λ z. true≢false (sym x ∙ idle_never s cs d (idle_none ((tests_state s).sure e)) z) in
    let w = (shown_exactly s cs d n).0 x in
    (n, w.0, w.1)

pub fresh_none_unset : (cs : List Command) (d : Command) → let a = answer (run fresh cs) d in let t = a.running in
    a.exception ≡ true → (t ≢ 0) × (a.code ≡ 0) × (SetUnshown t fresh cs ⊎ (sets (run fresh cs) d t ≡ true))
fresh_none_unset cs d x = let w = none_unset fresh cs d fresh_is_sound x in (w.0, w.1, go w.2)
  where
    t : ℕ
    t = (answer (run fresh cs) d).running

    go : Unshown t fresh cs ⊎ (sets (run fresh cs) d t ≡ true) → SetUnshown t fresh cs ⊎ (sets (run fresh cs) d t ≡ true)
    go (inl u) = inl (set_on_the_way (has_none t) u)
    go (inr f) = inr f
