-- What was promised of exceptions (specs/Exceptions) holds of the step that is shipped. The proofs carry the theorems of rules_exceptions over to the
-- whole state. Assumes nothing.
use Prim.Native.Nat.{ℕ}
use mathlib.Core.Path.{◌≡◌, refl, sym, ap, ap₂, subst, ◌∙◌}
use mathlib.Core.Logic.{◌≢◌, ◌↔◌, ◌⊎◌}
use mathlib.Core.Bool.{Bool, true, false, cond}
use mathlib.Core.List.{List, [], ◌∷◌, map}
use lib.Dec.{eqb}
use borrow.Author.Tests.{eqb-true, eqb-false, eq-eqb}
use Rattle.rules.specs.Machine.{runner}
use Rattle.rules.specs.Machine as Rules
use Rattle.rules.specs.declared.Whose.{Whose}
use Rattle.rules.specs.declared.Whose.TheVariants.{Nobody, Runner, Released}
use Rattle.rules.specs.Kinds.{kind}
use Rattle.rules.specs.Run.{accepts, released}
use Rattle.rules.specs.Run as R
use Rattle.rules.proofs.Words.{cmd}
use Rattle.rules_exceptions.specs.Exceptions.{owner, whose_of, task_of, next, answer, run, fresh, sound}
use Rattle.rules_exceptions.specs.Exceptions as X
use Rattle.rules_exceptions.specs.Words.{sets, Unshown, SetUnshown}
use Rattle.rules_exceptions.proofs.Kept.{tests_state, idle_none, owner_started}
use Rattle.rules_exceptions.proofs.Theorems as theorems
use Rattle.kernel_checks.specs.declared.Command.{Command}
use Rattle.kernel.specs.View as K
use Rattle.kernel.specs.Public.{to_rules, running_of}
use Rattle.kernel.specs.declared.Kernel.{Kernel}
use Rattle.kernel.specs.declared.command.Answer as tables
use Rattle.kernel_ready.specs.Ready.{runner_in}
use Rattle.kernel_ready.proofs.Laws.{front_idle}
use Rattle.kernel.specs.Public as P
use Rattle.kernel_state.specs.declared.State.{State}
use Rattle.kernel_state.specs.declared.Answer.{Answer}
use Rattle.kernel_state.specs.Public.{view, encode, is_sound, report, shape, step_of}
use Rattle.kernel_state.proofs.Written.{written_back, machine_sound, encode_sound, step_on, step_sound, refused_keeps, alike}
use Rattle.promises.specs.Words.{fresh_of, run_of, answers_of, moments_of}
use Rattle.promises.specs.Exceptions.{fresh_state, stepped_state, run_state, answers_state, moments_state, answer_behind, plain}
use Rattle.promises.specs.Exceptions.{FreshStateIsSound, StateStepKeepsSound, StateRunIsSound, UnsoundStateComesBack, FreshTables, RunsMoveAlike}
use Rattle.promises.specs.Exceptions.{ClosingsMoveAlike, SecondChangesNothing, WhoseItIs, ShownExactly, IdleShowsNone, NoneUnset, RefusedKeepsAll}

-- a run of the shipped step, and the answer behind one, from what is written
run_on : (cs : List Command) (x : X.State) → sound x ≡ true → run_state (encode x) cs ≡ encode (run x (map to_rules cs))
unfolding run_state run
run_on [] x s = refl
run_on (c ∷ cs) x s =
    ap (λ r. run_state r.next cs) (step_on x s (to_rules c)) ∙ run_on cs (next x (to_rules c)) (theorems.step_keeps_sound x (to_rules c) s)

answer_on : (x : X.State) → sound x ≡ true → (cs : List Command) (d : Command)
    → answer_behind (encode x) cs d ≡ (report (encode x) (answer (run x (map to_rules cs)) (to_rules d))).answer
answer_on x s cs d =
    ap (λ z. (step_of z (to_rules d)).answer) (run_on cs x s)
    ∙ ap (λ r. r.answer) (step_on (run x (map to_rules cs)) (theorems.run_keeps_sound x (map to_rules cs) s) (to_rules d))

pub fresh_state_is_sound : FreshStateIsSound
unfolding fresh_state
fresh_state_is_sound = encode_sound fresh theorems.fresh_is_sound

pub state_step_keeps_sound : StateStepKeepsSound
state_step_keeps_sound s c e = step_sound s (to_rules c) e

pub state_run_is_sound : StateRunIsSound
unfolding run_state
state_run_is_sound s [] e = e
state_run_is_sound s (c ∷ cs) e = state_run_is_sound (stepped_state s c).next cs (state_step_keeps_sound s c e)

pub unsound_state_comes_back : UnsoundStateComesBack
unfolding step_of
unsound_state_comes_back s c e = rw e

pub fresh_tables : FreshTables
unfolding fresh_state fresh_of encode
fresh_tables = refl

pub runs_move_alike : RunsMoveAlike
unfolding run_state run_of answers_state answers_of moments_state moments_of
runs_move_alike s [] e = (refl, refl, refl)
runs_move_alike s (c ∷ cs) e =
    let z = sym (alike s (to_rules c) e) in
    let k : (stepped_state s c).next.kernel ≡ (P.stepped s.kernel c).next = ap (λ r. r.next.kernel) z in
    let w = runs_move_alike (stepped_state s c).next cs (state_step_keeps_sound s c e) in (
      w.0 ∙ ap (λ x. run_of x cs) k,
      ap₂ (λ (a : tables.Answer) (l : List tables.Answer). a ∷ l) (ap (λ r. plain r.answer) z) (w.1 ∙ ap (λ x. answers_of x cs) k),
      ap (λ (l : List Kernel). s.kernel ∷ l) (w.2 ∙ ap (λ x. moments_of x cs) k),
    )

-- the steps of a state by two commands that move its machine alike
same_moves : (s : State) (c d : Rules.Command) → let m = (view s).machine in (R.next m c ≡ R.next m d) × (R.answer m c ≡ R.answer m d)
    → ((step_of s c).next.kernel ≡ (step_of s d).next.kernel) × (plain (step_of s c).answer ≡ plain (step_of s d).answer)
unfolding step_of encode
same_moves s c d w = go (is_sound s)
  where
    x : X.State
    x = view s

    moved : K.encode (next x c).machine ≡ K.encode (next x d).machine
    moved = ap K.encode (theorems.machine_moves x c ∙ (w.0 ∙ sym (theorems.machine_moves x d)))

    answered : plain (report s (answer x c)).answer ≡ plain (report s (answer x d)).answer
    answered =
        ap (λ (a : R.Answer). P.answer_of a.code a.running a.released)
        (theorems.answers_alike x c ∙ (w.1 ∙ sym (theorems.answers_alike x d)))

    go : (b : Bool)
        → ((cond b (report (encode (next x c)) (answer x c)) (report s shape)).next.kernel
        ≡ (cond b (report (encode (next x d)) (answer x d)) (report s shape)).next.kernel)
        × (plain (cond b (report (encode (next x c)) (answer x c)) (report s shape)).answer
        ≡ plain (cond b (report (encode (next x d)) (answer x d)) (report s shape)).answer)
    go true = (moved, answered)
    go false = (refl, refl)

pub closings_move_alike : ClosingsMoveAlike
closings_move_alike =
    let t = theorems.moves_alike in (
      λ s a b v. same_moves s (cmd 12 a b v) (cmd 8 a b v) (t.0 (view s).machine a b v),
      (
        λ s a b v. same_moves s (cmd 13 a b v) (cmd 9 a b v) (t.1.0 (view s).machine a b v),
        (
          λ s a b v. same_moves s (cmd 14 a b v) (cmd 11 a b v) (t.1.1.0 (view s).machine a b v),
          (λ s a b v. same_moves s (cmd 15 a b v) (cmd 8 a b v) (t.1.1.1.0 (view s).machine a b v), tt),
        ),
      ),
    )

-- the steps of a state by two commands that leave the same and answer the same
same_steps : (s : State) (c d : Rules.Command) → (next (view s) c ≡ next (view s) d) × (answer (view s) c ≡ answer (view s) d) → step_of s c ≡ step_of s d
unfolding step_of
same_steps s c d w =
    ap₂ (λ (x : X.State) (a : X.Answer). cond (is_sound s) (report (encode x) a) (report s shape)) w.0 w.1

pub second_changes_nothing : SecondChangesNothing
unfolding view
second_changes_nothing =
    let t = theorems.second_changes_nothing in (
      λ s a b v h. same_steps s (cmd 12 a b v) (cmd 8 a b v) (t.0 (view s) a b v h),
      (
        λ s a b v h. same_steps s (cmd 13 a b v) (cmd 9 a b v) (t.1.0 (view s) a b v h),
        (
          λ s a b v h. same_steps s (cmd 14 a b v) (cmd 11 a b v) (t.1.1.0 (view s) a b v h),
          (λ s a b v h. same_steps s (cmd 15 a b v) (cmd 8 a b v) (t.1.1.1.0 (view s) a b v h), tt),
        ),
      ),
    )

-- who runs, by the tables and by the machine: the front, where it is somebody and so started
ran : (s : State) → is_sound s ≡ true → (c : Rules.Command) → accepts (view s).machine c ≡ true → (w : Whose) → whose_of (kind c) ≡ w
    → task_of w (runner (view s).machine) (released (view s).machine c) ≡ task_of w (running_of s.kernel) (released (view s).machine c)
unfolding view K.view
ran s e c ok Nobody q = refl
ran s e c ok Released q = refl
ran s e c ok Runner q = front_idle s.kernel.ready ∙ go (eqb (runner m) 0) refl
  where
    m : Rules.Machine
    m = (view s).machine

    front : runner_in s.kernel.ready ≡ runner m
    front = sym (front_idle s.kernel.ready)

    go : (b : Bool) → eqb (runner m) 0 ≡ b → runner_in s.kernel.ready ≡ cond s.kernel.started (runner_in s.kernel.ready) 0
    go true z = rw (front ∙ eqb-true _ _ z) (sym (same_either s.kernel.started))
      where
        same_either : (b : Bool) → ◌≡◌ {A = ℕ} (cond b 0 0) 0
        same_either true = refl
        same_either false = refl
    go false z =
        let n : owner m c ≢ 0 = rw q (eqb-false _ _ z) in
        rw (owner_started m ((tests_state (view s)).sure (machine_sound s e)).machine c ok n)

pub whose_it_is : WhoseItIs
unfolding step_of answer
whose_it_is s c e = rw e (λ ok. ran s e (to_rules c) (eq-eqb _ 0 ok) (whose_of (kind (to_rules c))) refl)

-- the promise, of a state that is written
shown_on : (x : X.State) → sound x ≡ true → (cs : List Command) (d : Command) → let a = answer_behind (encode x) cs d in let t = a.running.0 in
    t ≢ 0 → (a.exception ≡ true)
    ↔ ((a.code ≡ 0) × (Unshown t x (map to_rules cs) ⊎ (sets (run x (map to_rules cs)) (to_rules d) t ≡ true)))
shown_on x s cs d = rw (answer_on x s cs d) (theorems.shown_exactly x (map to_rules cs) (to_rules d))

pub shown_exactly : ShownExactly
shown_exactly s cs d e = rw (written_back s e) at (shown_on (view s) (machine_sound s e) cs d)

pub idle_shows_none : IdleShowsNone
idle_shows_none s cs d e = rw (written_back s e) at (idle_on (view s) (machine_sound s e))
  where
    idle_on : (x : X.State) → sound x ≡ true → (answer_behind (encode x) cs d).running.0 ≡ 0 → (answer_behind (encode x) cs d).exception ≡ false
    idle_on x k = rw (answer_on x k cs d) (theorems.idle_never x (map to_rules cs) (to_rules d) (idle_none ((tests_state x).sure k)))

-- what an answer from the fresh machine shows
abbrev FromFresh : List Command → Command → Answer → Type 0
FromFresh cs d a =
    let t = a.running.0 in
    a.exception ≡ true
    → (t ≢ 0) × (a.code ≡ 0)
    × (SetUnshown t fresh (map to_rules cs) ⊎ (sets (run fresh (map to_rules cs)) (to_rules d) t ≡ true))

pub none_unset : NoneUnset
unfolding fresh_state
none_unset cs d =
    subst (FromFresh cs d) (sym (answer_on fresh theorems.fresh_is_sound cs d)) (theorems.fresh_none_unset (map to_rules cs) (to_rules d))

pub refused_keeps_all : RefusedKeepsAll
refused_keeps_all s c = refused_keeps s (to_rules c)
