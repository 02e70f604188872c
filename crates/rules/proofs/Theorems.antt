-- What is promised of document 01's machine, each in plain words and then in antt, over every list of commands: unknown ops, bad operands,
-- refused commands and all. Beside each: which wrong machines it rules out, and which it leaves to another. The proofs are in the files
-- that are named; `run fresh before` is the state behind any commands whatever. Assumes nothing.
use Prim.Native.Nat.{ℕ, zero, suc, ◌-◌, ◌≤◌, ◌<◌}
use native.Mathlib.Omega.{arith}
use mathlib.Core.Path.{◌≡◌, refl, sym, ap, ◌∙◌}
use mathlib.Core.Logic.{◌≢◌, ◌↔◌}
use mathlib.Core.Bool.{true, cond}
use mathlib.Core.List.{List, []}
use lib.Dec.{eqb, ltb}
use lib.ListN.{get_or, replicate}
use borrow.Author.Tests.{ne_eqb}
use Rattle.rules.specs.Line.{at, front, neighbours}
use Rattle.rules.specs.Machine.{Machine, Command, fresh, last_opened, runner, running}
use Rattle.rules.specs.declared.Kind.{Kind}
use Rattle.rules.specs.declared.End.{End}
use Rattle.rules.specs.Kinds.{kind_at}
use Rattle.rules.specs.declared.Kind.TheVariants.{NoKind, Creating, Declaring, Starting, Delaying, Waking, Advancing, Opening, Entering, Ending}
use Rattle.rules.specs.Refusals.{behind_range, refusal}
use Rattle.rules.specs.Sound.{sound}
use Rattle.rules.specs.Run.{accepts, next, released, answer, run, answers, question, wakes_left}
use Rattle.rules.proofs.Words.{All, Pairwise, Free, Holding, Among, closing_ops, serving_ops, releasing_ops, moments, wakes, wakes_in, DueAt, Clear}
use Rattle.rules.proofs.Lists.{pairwise_map, all_every}
use Rattle.rules.proofs.Hands.{act_held}
use Rattle.rules.proofs.Sounds.{Sound, tests_sound}
use Rattle.rules.proofs.Step.{next_sound, run_sound, fresh_test, fresh_sound}
use Rattle.rules.proofs.Wakes.{a_wake, keeps_its_turn, at_wake, left_is_due, due_is_left, question_left, left_question, wakes_in_row, row_of_wakes}
use Rattle.rules.proofs.Wakes.{wake_takes_due}
use Rattle.rules.proofs.Clear.{next_clear, run_clear, fresh_clear}
use Rattle.rules.proofs.Accepted.{end_op}
use Rattle.rules.proofs.Release.{released_behind, released_based, released_by, lower_runs, first_moment}
use Rattle.rules.proofs.Goes.{closed_holds_nothing, closing_serves, served_waits_no_more, shut_keeps_waiters}

-- ## Sound states
-- The fresh machine is sound; a step from a sound state leaves a sound state: by `sound`, the test that a kernel makes of a state that comes in.
-- Rules out: a place given to a task twice or to none, a holder that is put to sleep, a line out of order, a clock past its end.
-- Leaves: a machine that refuses all, or does nothing (the op table, Table.antt, and the walk); and a test that is too weak (Saved, unsound).
pub fresh_is_sound : sound fresh ≡ true
fresh_is_sound = fresh_test

pub step_keeps_sound : (m : Machine) (c : Command) → sound m ≡ true → sound (next m c) ≡ true
step_keeps_sound m c e = (tests_sound (next m c)).found (next_sound m ((tests_sound m).sure e) c)

pub run_is_sound : (cs : List Command) → sound (run fresh cs) ≡ true
run_is_sound cs = (tests_sound (run fresh cs)).found (run_sound cs fresh fresh_sound)

-- A refused command keeps the state, and its answer releases nobody.
-- Rules out: a refusal that ticks, or moves a task. Leaves: which commands are refused (Refusals.antt; Limits, limits).
pub refused_changes_nothing : (m : Machine) (c : Command) → refusal m c ≢ 0 → (next m c ≡ m) × ((answer m c).running ≡ running m) × ((answer m c).released ≡ 0)
unfolding next released answer
refused_changes_nothing m c n = rw (ne_eqb (refusal m c) 0 n) (refl, refl, refl)

-- ## The promise on Wakes
-- Whenever task t stands at index r of the delay line with its time at most the clock: count the accepted Wakes after that moment. While
-- there are at most r of them, t stays in the line, at index r less their count, and no answer releases it; and the (r+1)th of them does.
-- Rules out: a past delay at the front of the line, a Wake that skips or drops an entry, a machine that works once and then pretends.
-- Leaves: one that refuses every Wake (wakes-left-seen below rules it out); ties in the wrong order, which only become due so (Placing,
-- time-splits, and Corners, rows); and one in which nobody sleeps (the walk).
-- It holds of every sound state, so of a saved one too; the fresh machine is the case that the promise is about.
pub wakes_promise_sound : (m : Machine) (after : List Command) (t r : ℕ) → sound m ≡ true → DueAt m t r → wakes_in m after ≤ r
    → DueAt (run m after) t (r - wakes_in m after) × All (λ a. a.released ≢ t) (answers m after)
wakes_promise_sound m after t r e d k = keeps_its_turn after m ((tests_sound m).sure e) t r d k

pub wakes_promise_sound_kept : (m : Machine) (after : List Command) (t r : ℕ) (c : Command) → sound m ≡ true
    → DueAt m t r → wakes_in m after ≡ r → wakes (run m after) c ≡ true → (answer (run m after) c).released ≡ t
unfolding answer
wakes_promise_sound_kept m after t r c e d k w =
    let s = (tests_sound m).sure e in
    let i = keeps_its_turn after m s t r d (omega arith) in
    let z : r - wakes_in m after ≡ 0 = omega arith in
    at_wake (run m after) (run_sound after m s) t c w 0 (rw z at i.0)

pub wakes_promise : (before after : List Command) (t r : ℕ) → let m = run fresh before in
    DueAt m t r → wakes_in m after ≤ r
    → DueAt (run m after) t (r - wakes_in m after) × All (λ a. a.released ≢ t) (answers m after)
wakes_promise before after t r d k = wakes_promise_sound (run fresh before) after t r (run_is_sound before) d k

pub wakes_promise_kept : (before after : List Command) (t r : ℕ) (c : Command) → let m = run fresh before in
    DueAt m t r → wakes_in m after ≡ r → wakes (run m after) c ≡ true → (answer (run m after) c).released ≡ t
wakes_promise_kept before after t r c d k w = wakes_promise_sound_kept (run fresh before) after t r c (run_is_sound before) d k w

-- "Wakes left" is that count: its answer r + 1 says that t is due at index r, and so that the (r+1)th accepted Wake releases it; its answer
-- 0, that t is due at none. `question` is the answer as it is given, checks and all.
-- Rules out: a count that is one too high or too low, a made-up number. Leaves: the code of a refused question (Limits, question-limits).
pub wakes_left_says : (before : List Command) (t r : ℕ) → let m = run fresh before in (wakes_left m t ≡ suc r) ↔ DueAt m t r
wakes_left_says before t r = let s = run_sound before fresh fresh_sound in (left_is_due (run fresh before) s t r, due_is_left (run fresh before) s t r)

pub question_says : (before : List Command) (t r : ℕ) → let m = run fresh before in ((question m t).left ≡ suc r) ↔ DueAt m t r
question_says before t r = let s = run_sound before fresh fresh_sound in (question_left (run fresh before) s t r, left_question (run fresh before) s t r)

pub none_left_says : (before : List Command) (t : ℕ) → let m = run fresh before in (wakes_left m t ≡ 0) ↔ ((r : ℕ) → DueAt m t r → ⊥)
none_left_says before t = (λ e r d. omega (arith, due_is_left m s t r d), λ f. go (wakes_left m t) refl f)
  where
    m : Machine
    m = run fresh before

    s : Sound m
    s = run_sound before fresh fresh_sound

    go : (n : ℕ) → wakes_left m t ≡ n → ((r : ℕ) → DueAt m t r → ⊥) → wakes_left m t ≡ 0
    go zero e f = e
    go (suc r) e f = absurd (f r (left_is_due m s t r e))

-- Told from outside, after Start: the answer is r + 1 exactly if, of Wakes that follow one another, the (r+1)th releases t. And a Wake
-- releases none but a due task.
-- Rules out: a machine that refuses Wakes, or that releases whoever sleeps. Leaves: Wakes with other commands between (the promise above).
pub wakes_left_seen : (before : List Command) (t r : ℕ) → let m = run fresh before in m.started ≡ true → t ≢ 0
    → (wakes_left m t ≡ suc r) ↔ (released (run m (replicate r a_wake)) a_wake ≡ t)
wakes_left_seen before t r on n =
    let m = run fresh before in
    let s = run_sound before fresh fresh_sound in
    (λ e. wakes_in_row r m s on t (left_is_due m s t r e), λ e. due_is_left m s t r (row_of_wakes r m s on t n e))

pub wake_releases_due : (before : List Command) (c : Command) → let m = run fresh before in wakes m c ≡ true → released m c ≢ 0 → DueAt m (released m c) 0
wake_releases_due before c w n = wake_takes_due (run fresh before) (run_sound before fresh fresh_sound) c w n

-- ## The invariant
-- Where a task holds an object of ceiling c, every task ahead of it in the ready line has a base above c.
-- It is not true of every sound state (Saved's `two_holders` and Limits' `forged` are sound, and it fails there), but every step keeps it.
-- Rules out: a released task in front of a holder whose ceiling is its base; a ceiling that bars nobody.
-- Leaves: who stands behind a holder (the ready line's order, `sound`).
pub fresh_is_clear : Clear fresh
fresh_is_clear = fresh_clear

pub step_keeps_clear : (m : Machine) (c : Command) → sound m ≡ true → Clear m → Clear (next m c)
step_keeps_clear m c e k = next_clear m ((tests_sound m).sure e) k c

-- The same over runs, with the ceiling by its own name.
pub ahead_of_a_holder : (before : List Command) → let m = run fresh before in
    Pairwise (λ a b. Holding m b → at m.ceiling (last_opened m b) < at m.base a) m.ready
unfolding Clear
ahead_of_a_holder before =
    let m = run fresh before in
    pairwise_map {P = λ x. Unit {0}} (λ a b u v w n. rw (act_held m b n) at (w n)) m.ready (all_every (λ x. tt) m.ready)
    (run_clear before fresh fresh_sound fresh_clear)

-- An accepted closing (8, 9, 11, and 12 to 15, by an exception) leaves the runner's hands empty: what the promise below calls "closed" is
-- "no longer held". The list of closings has every end of a body (closings-all).
-- Rules out: closings that do nothing, or that keep the object. Leaves: whom a closing releases (below); a machine that accepts none, as one that never
-- starts (the walk).
pub closing_empties : (before : List Command) (c : Command) → let m = run fresh before in
    accepts m c ≡ true → Among closing_ops c.op → Free (next m c) (runner m)
closing_empties before c ok op = closed_holds_nothing (run fresh before) (run_sound before fresh fresh_sound) c ok op

pub closings_all : (op : ℕ) (e : End) → kind_at op ≡ Ending e → Among closing_ops op
closings_all = end_op

-- ## The order of the checks
-- Behind Range each kind's checks stand in document 01's order: 2 or 3, then 5 to 13, each number above the one before it. So the first that holds
-- is the least that holds.
-- Rules out: a row of checks in another order. Leaves: which checks a kind has (Limits, by computing).
pub checks_in_order : (k : Kind) (m : Machine) (c : Command) → neighbours (λ x y. ltb x.1 y.1) (behind_range k m c) ≡ true
checks_in_order NoKind m c = refl
checks_in_order Creating m c = refl
checks_in_order Declaring m c = refl
checks_in_order Starting m c = refl
checks_in_order Delaying m c = refl
checks_in_order Waking m c = refl
checks_in_order Advancing m c = refl
checks_in_order Opening m c = refl
checks_in_order Entering m c = refl
checks_in_order (Ending e) m c = refl

-- ## Who is served
-- An accepted 8, 11, 12, 14 or 15 with barrier 1 releases the task that waits on its object (0: none does), and nobody waits there any more; with
-- barrier 0 it releases nobody, and who waits waits on. So no end of a body with an open barrier leaves a task waiting on its object:
-- `done` looks at the waiter as closep does.
-- Rules out: an entry's end that passes the waiter over, one that releases behind a shut barrier, a waiter that is named and not let go.
-- Leaves: where the released task goes (Goes, served-to-tail); that anybody opens the barrier.
pub open_serves : (before : List Command) (c : Command) → let m = run fresh before in
    accepts m c ≡ true → Among serving_ops c.op → c.b ≡ 1
    → (released m c ≡ front 0 (get_or m.queue c.a [])) × (get_or (next m c).queue c.a [] ≡ [])
open_serves before c ok op e =
    let m = run fresh before in
    let s = run_sound before fresh fresh_sound in
    (closing_serves m s c ok op ∙ ap (λ (b : ℕ). cond (eqb b 1) (front 0 (get_or m.queue c.a [])) 0) e, served_waits_no_more m s c ok op e)

pub shut_serves_nobody : (before : List Command) (c : Command) → let m = run fresh before in
    accepts m c ≡ true → Among serving_ops c.op → c.b ≡ 0 → (released m c ≡ 0) × ((next m c).queue ≡ m.queue)
shut_serves_nobody before c ok op e =
    let m = run fresh before in
    let s = run_sound before fresh fresh_sound in
    (closing_serves m s c ok op ∙ ap (λ (b : ℕ). cond (eqb b 1) (front 0 (get_or m.queue c.a [])) 0) e, shut_keeps_waiters m s c ok op e)

-- Only a Wake, and an end of a body that has a barrier, releases: no other op.
-- Rules out: a release by any other command. Leaves: that these do, and whom (wake-releases-due and open-serves above).
pub released_by_these : (before : List Command) (c : Command) → released (run fresh before) c ≢ 0 → Among releasing_ops c.op
released_by_these before c n = released_by (run fresh before) (run_sound before fresh fresh_sound) c n

-- ## The promise on releases
-- Whenever a command releases task t, be it a Wake or the end of a body (released-by-these): there is one task `low` and one object such
-- that, at every later moment at which t has not run yet (the moment of the release among them), if a task of a base below t's runs, then
-- it is `low`; it held that object at the release, and has held it at every moment since, so it has closed it at none of the commands between.
-- `low` and the object are found at the release, before any later command is known: so the tasks of lower base that run at any two such
-- moments are one task. Equal base is not lower. Idle holds nothing, so it does not run: see below.
-- Bases are those at the release: no command changes one after Start.
-- It is not true from every sound state (Saved: two-lower-tasks, not-of-every-sound-state).
-- Rules out: a closing runner that keeps its place, a second low task in between, a holder that loses its object unclosed.
-- Leaves: one that releases nobody (open-serves above, and the walk); closings that do nothing (closing-empties above); ceilings without effect
-- (ahead-of-a-holder above, and Corners, rows); a released task in front of its equals (Goes, woken-to-tail and served-to-tail).
pub release_promise : (before : List Command) (c : Command) → let m = run fresh before in let now = next m c in let t = released m c in
    t ≢ 0 → (low : ℕ) × (object : ℕ) × ((after : List Command) → All (λ s. running s ≢ t) (moments now after)
    → let then = run now after in at now.base (running then) < at now.base t
    → (running then ≡ low) × (object ≢ 0) × All (λ s. last_opened s low ≡ object) (moments now after))
release_promise before c n =
    let m = run fresh before in
    let s = run_sound before fresh fresh_sound in
    let w = released_behind m s (run_clear before fresh fresh_sound fresh_clear) c n in
    let t = released m c in
    let object = last_opened m w.0 in
    (w.0, object, λ after k lt. lower_runs after (next m c) (next_sound m s c) w.2 t (at m.base t) w.0 object w.1 k (rw w.1.rank at lt))

-- The same of two moments: whoever of lower base runs at the end of one way on from the release, and of another, is one task.
-- Rules out: a low task that depends on what comes later. Leaves: that it holds an object (the promise itself).
pub one_lower_task : (before : List Command) (c : Command) (to-i to_j : List Command)
    → let m = run fresh before in let now = next m c in let t = released m c in
    t ≢ 0 → All (λ s. running s ≢ t) (moments now to-i) → All (λ s. running s ≢ t) (moments now to_j)
    → at now.base (running (run now to-i)) < at now.base t → at now.base (running (run now to_j)) < at now.base t
    → running (run now to-i) ≡ running (run now to_j)
one_lower_task before c to-i to_j n ki kj li lj = let w = release_promise before c n in (w.2 to-i ki li).0 ∙ sym (w.2 to_j kj lj).0

-- Idle, which holds nothing, runs at no such moment.
-- Rules out: a released task that is put behind idle, or lost. Leaves: which of the others runs (the promise itself).
pub idle_does_not_run : (before : List Command) (c : Command) (after : List Command)
    → let m = run fresh before in let now = next m c in let t = released m c in
    t ≢ 0 → All (λ s. running s ≢ t) (moments now after) → running (run now after) ≢ 0
idle_does_not_run before c after n k e =
    let m = run fresh before in
    let now = next m c in
    let s : Sound now = next_sound m (run_sound before fresh fresh_sound) c in
    let b : 1 ≤ at now.base (released m c) = released_based m (run_sound before fresh fresh_sound) (run_clear before fresh fresh_sound fresh_clear) c n in
    let w = release_promise before c n in
    let i = w.2 after k (rw e (omega (arith, s.idle_ready.idle_base))) in
    i.1 (sym (first_moment (λ x. last_opened x w.0 ≡ w.1) after now i.2) ∙ (ap (last_opened now) (sym i.0 ∙ e) ∙ s.idle_ready.idle_free))
