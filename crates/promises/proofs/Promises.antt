-- What was promised (specs/Promises, in words and as types) holds of the step that is shipped. The proofs carry the rules' theorems (crates/rules,
-- proofs/Theorems) over to the tables. Assumes nothing.
use Prim.Native.Nat.{ℕ, zero, suc, ◌-◌, ◌<◌}
use native.Mathlib.Omega.{arith}
use mathlib.Core.Path.{◌≡◌, refl, sym, ap, ◌∙◌, subst}
use mathlib.Core.Logic.{◌≢◌, ◌↔◌}
use mathlib.Core.Bool.{true}
use mathlib.Core.List.{List, [], ◌∷◌, map}
use lib.ListN.{get_or, replicate, get_or-map}
use borrow.Author.Tests.{eq-eqb}
use Rattle.rules.specs.Line.{at, front}
use Rattle.rules.specs.Machine.{Machine, fresh, last_opened, running}
use Rattle.rules.specs.Machine as Rules
use Rattle.rules.specs.Run.{next, released, answer, run, answers}
use Rattle.rules.proofs.Words.{All, moments, wakes, wakes_in}
use Rattle.rules.proofs.Sounds.{Sound}
use Rattle.rules.proofs.Step.{next_sound, run_sound, fresh_sound}
use Rattle.rules.proofs.Wakes as Row
use Rattle.rules.proofs.Wakes.{keeps_its_turn, at_wake, question_left, left_question, wakes_in_row, row_of_wakes}
use Rattle.rules.proofs.Theorems as rules
use Rattle.kernel.specs.declared.Kernel.{Kernel}
use Rattle.kernel_checks.specs.declared.Command.{Command}
use Rattle.kernel.specs.View.{view, encode}
use Rattle.kernel.specs.Public.{to_rules, step_of, running_of, left_of}
use Rattle.kernel.proofs.Written.{stands, encode_sound, step_on, step_sound, refused_keeps}
use Rattle.promises.specs.Words.{fresh_of, run_of, moments_of, woke_by, a_wake, DueIn}
use Rattle.promises.specs.Promises.{FreshIsSound, StepKeepsSound, RunIsSound, RefusedChangesNothing, UnsoundComesBack}
use Rattle.promises.specs.Promises.{KeepsItsTurn, ThenReleased, WakesPromise, WakesPromiseKept, WakesPromiseSound, WakesPromiseSoundKept}
use Rattle.promises.specs.Promises.{WakesLeftSays, NoneLeftSays, SeenFrom, WakesLeftSeen, ReleasedByThese, OpenServes, ShutServesNobody}
use Rattle.promises.specs.Promises.{ReleasePromise, OneLowerTask, IdleDoesNotRun}
use Rattle.promises.proofs.Tied.{told, run_tie, answers_tie, run_from_fresh, running_tie, left_tie, due_at, due_in}
use Rattle.promises.proofs.Tied.{woke_tie, wakes_tie, all_moments, moments_all, all_told}

-- the machine that a run from the fresh tables stands for
abbrev behind : List Command → Machine
behind before = run fresh (map to_rules before)

behind_sound : (before : List Command) → Sound (behind before)
behind_sound before = run_sound (map to_rules before) fresh fresh_sound

pub fresh_is_sound : FreshIsSound
unfolding fresh_of
fresh_is_sound = encode_sound fresh fresh_sound

pub step_keeps_sound : StepKeepsSound
step_keeps_sound k c = step_sound k (to_rules c)

pub run_is_sound : RunIsSound
run_is_sound cs = rw (run_from_fresh cs) (encode_sound (behind cs) (behind_sound cs))

pub refused_changes_nothing : RefusedChangesNothing
refused_changes_nothing k c n = refused_keeps k (to_rules c) n

pub unsound_comes_back : UnsoundComesBack
unfolding step_of
unsound_comes_back k c e = rw e

pub wakes_promise_sound : WakesPromiseSound
wakes_promise_sound k after t r e =
    let z = stands k e in
    subst (λ (x : Kernel). KeepsItsTurn x after t r) z.written (on (view k) z.machine)
  where
    on : (m : Machine) → Sound m → KeepsItsTurn (encode m) after t r
    on m s d k =
        let cs = map to_rules after in
        let i = keeps_its_turn cs m s t r (due_at m s t r d) (omega (arith, wakes_tie after m s)) in
        rw (run_tie after m s, wakes_tie after m s, answers_tie after m s)
        (due_in (run m cs) (run_sound cs m s) t (r - wakes_in m cs) i.0, all_told (λ a. a.released.0 ≢ t) told (answers m cs) i.1)

pub wakes_promise_sound_kept : WakesPromiseSoundKept
unfolding answer released
wakes_promise_sound_kept k after t r c e =
    let z = stands k e in
    subst (λ (x : Kernel). ThenReleased x after t r c) z.written (on (view k) z.machine)
  where
    on : (m : Machine) → Sound m → ThenReleased (encode m) after t r c
    on m s d k w =
        let cs = map to_rules after in
        let n = run m cs in
        let sn = run_sound cs m s in
        let i = keeps_its_turn cs m s t r (due_at m s t r d) (omega (arith, wakes_tie after m s)) in
        let z : r - wakes_in m cs ≡ 0 = omega (arith, wakes_tie after m s) in
        let e : wakes n (to_rules c) ≡ true = sym (woke_tie n sn c) ∙ (ap (λ (x : Kernel). woke_by x c) (sym (run_tie after m s)) ∙ w) in
        rw (run_tie after m s, step_on n sn (to_rules c)) (at_wake n sn t (to_rules c) e 0 (rw z at i.0))

pub wakes_promise : WakesPromise
wakes_promise before after t r = wakes_promise_sound (run_of fresh_of before) after t r (run_is_sound before)

pub wakes_promise_kept : WakesPromiseKept
wakes_promise_kept before after t r c = wakes_promise_sound_kept (run_of fresh_of before) after t r c (run_is_sound before)

pub wakes_left_says : WakesLeftSays
wakes_left_says k t r e =
    let z = stands k e in
    subst (λ (x : Kernel). ((left_of x t).left ≡ suc r) ↔ DueIn x t r) z.written (on (view k) z.machine)
  where
    on : (m : Machine) → Sound m → ((left_of (encode m) t).left ≡ suc r) ↔ DueIn (encode m) t r
    on m s = rw (left_tie m s t) (λ e. due_in m s t r (question_left m s t r e), λ d. left_question m s t r (due_at m s t r d))

pub none_left_says : NoneLeftSays
none_left_says k t s = (λ e r d. omega (arith, (wakes_left_says k t r s).1 d), λ f. go (left_of k t).left refl f)
  where
    go : (n : ℕ) → (left_of k t).left ≡ n → ((r : ℕ) → DueIn k t r → ⊥) → (left_of k t).left ≡ 0
    go zero e f = e
    go (suc r) e f = absurd (f r ((wakes_left_says k t r s).0 e))

pub wakes_left_seen : WakesLeftSeen
unfolding answer encode
wakes_left_seen k t r e =
    let z = stands k e in
    subst (λ (x : Kernel). SeenFrom x t r) z.written (on (view k) z.machine)
  where
    row : (n : ℕ) → map to_rules (replicate n a_wake) ≡ replicate n Row.a_wake
    row zero = refl
    row (suc n) = ap (λ (l : List Rules.Command). Row.a_wake ∷ l) (row n)

    on : (m : Machine) → Sound m → SeenFrom (encode m) t r
    on m s st n =
        let cs = replicate r a_wake in
        rw (left_tie m s t, run_tie cs m s, step_on (run m (map to_rules cs)) (run_sound (map to_rules cs) m s) Row.a_wake, row r)
        (λ q. wakes_in_row r m s st t (question_left m s t r q), λ q. left_question m s t r (row_of_wakes r m s st t n q))

-- carried over from the rules, for the tables of a sound machine
base_tie : (m : Machine) → (encode m).base ≡ m.base
unfolding encode
base_tie m = refl

held_tie : (m : Machine) (t : ℕ) → at (encode m).held t ≡ last_opened m t
unfolding encode
held_tie m t = refl

-- who waits on each object: the first of its queue, 0 for nobody
waiters : (m : Machine) → (encode m).waiter ≡ map (front 0) m.queue
unfolding encode
waiters m = refl

waiting : (m : Machine) (o : ℕ) → at (encode m).waiter o ≡ front 0 (get_or m.queue o [])
waiting m o = ap (λ (l : List ℕ). at l o) (waiters m) ∙ get_or-map (front 0) m.queue o []

running_behind : (n : Machine) → Sound n → (after : List Command) → running_of (run_of (encode n) after) ≡ running (run n (map to_rules after))
running_behind n s after =
    ap (λ (x : Kernel). running_of x) (run_tie after n s) ∙ running_tie (run n (map to_rules after)) (run_sound (map to_rules after) n s)

never_ran : (n : Machine) → Sound n → (t : ℕ) (after : List Command)
    → All (λ s. running_of s ≢ t) (moments_of (encode n) after) → All (λ s. running s ≢ t) (moments n (map to_rules after))
never_ran n s t after = all_moments (λ x. running_of x ≢ t) (λ x. running x ≢ t) (λ m sm h e. h (running_tie m sm ∙ e)) after n s

lower_on : (n : Machine) → Sound n → (t low object : ℕ)
    → ((after : List Rules.Command) → All (λ s. running s ≢ t) (moments n after) → at n.base (running (run n after)) < at n.base t
    → (running (run n after) ≡ low) × (object ≢ 0) × All (λ s. last_opened s low ≡ object) (moments n after))
    → (after : List Command) → All (λ s. running_of s ≢ t) (moments_of (encode n) after)
    → at (encode n).base (running_of (run_of (encode n) after)) < at (encode n).base t
    → (running_of (run_of (encode n) after) ≡ low) × (object ≢ 0) × All (λ s. at s.held low ≡ object) (moments_of (encode n) after)
lower_on n s t low object f after k lt =
    let cs = map to_rules after in
    let r = running_behind n s after in
    let lt' : at n.base (running (run n cs)) < at n.base t = rw (r, base_tie n) at lt in
    let w = f cs (never_ran n s t after k) lt' in
    let held = moments_all (λ x. at x.held low ≡ object) (λ x. last_opened x low ≡ object) (λ m sm h. held_tie m low ∙ h) after n s w.2 in
    (r ∙ w.0, w.1, held)

pub released_by_these : ReleasedByThese
unfolding answer
released_by_these before c =
    rw (run_from_fresh before, step_on (behind before) (behind_sound before) (to_rules c)) (λ z. rules.released_by_these (map to_rules before) (to_rules c) z)

pub open_serves : OpenServes
unfolding answer
open_serves before c = rw (run_from_fresh before, step_on (behind before) (behind_sound before) (to_rules c)) (λ ok op b.
    let w = rules.open_serves (map to_rules before) (to_rules c) (eq-eqb _ 0 ok) op b in
    (w.0 ∙ sym (waiting (behind before) c.a), waiting (next (behind before) (to_rules c)) c.a ∙ ap (front 0) w.1))

pub shut_serves_nobody : ShutServesNobody
unfolding answer
shut_serves_nobody before c = rw (run_from_fresh before, step_on (behind before) (behind_sound before) (to_rules c)) (λ ok op b.
    let w = rules.shut_serves_nobody (map to_rules before) (to_rules c) (eq-eqb _ 0 ok) op b in
    (w.0, waiters (next (behind before) (to_rules c)) ∙ ap (λ (q : List (List ℕ)). map (front 0) q) w.1 ∙ sym (waiters (behind before))))

pub release_promise : ReleasePromise
unfolding answer
release_promise before c = rw (run_from_fresh before, step_on (behind before) (behind_sound before) (to_rules c)) (λ z.
    let w = rules.release_promise (map to_rules before) (to_rules c) z in
    let n = next (behind before) (to_rules c) in
    (w.0, w.1, lower_on n (next_sound (behind before) (behind_sound before) (to_rules c)) (released (behind before) (to_rules c)) w.0 w.1 w.2))

pub one_lower_task : OneLowerTask
one_lower_task before c to-i to_j n ki kj li lj = let w = release_promise before c n in (w.2 to-i ki li).0 ∙ sym (w.2 to_j kj lj).0

pub idle_does_not_run : IdleDoesNotRun
unfolding answer
idle_does_not_run before c after = rw (run_from_fresh before, step_on (behind before) (behind_sound before) (to_rules c)) (λ z ks e.
    let n = next (behind before) (to_rules c) in
    let s = next_sound (behind before) (behind_sound before) (to_rules c) in
    rules.idle_does_not_run (map to_rules before) (to_rules c) (map to_rules after) z (never_ran n s (released (behind before) (to_rules c)) after ks)
    (sym (running_behind n s after) ∙ e))
