-- The answers of the whole state are of bytes. Assumes nothing.
use Prim.Native.Nat.{ℕ, ◌<◌}
use native.Mathlib.Omega.{arith}
use mathlib.Core.Path.{◌≡◌, refl}
use mathlib.Core.Bool.{Bool, true, false, cond}
use mathlib.Core.List.{List, [], ◌∷◌}
use lib.Dec.{eqb}
use borrow.Author.Tests.{eqb-true, eqb-false}
use Rattle.rules.specs.Machine.{Machine, Command, runner, running}
use Rattle.rules.specs.declared.Kind.{Kind}
use Rattle.rules.specs.declared.Kind.TheVariants.{NoKind, Creating, Declaring, Starting, Delaying, Waking, Advancing, Opening, Entering, Ending}
use Rattle.rules.specs.Kinds.{kind}
use Rattle.rules.specs.Refusals.{checks_of, checks, first_number, refusal}
use Rattle.rules.specs.Run.{released}
use Rattle.rules.specs.Run as R
use Rattle.rules.proofs.Words.{All}
use Rattle.rules.proofs.Sounds.{Sound, runner_known, known}
use Rattle.rules.proofs.Step as Rules
use Rattle.rules_exceptions.specs.Exceptions.{answer}
use Rattle.rules_exceptions.proofs.Kept.{released_stands}
use Rattle.kernel.specs.View as K
use Rattle.kernel.proofs.Written.{stands}
use Rattle.kernel_state.specs.declared.State.{State}
use Rattle.kernel_state.specs.Public.{view, is_sound, step_of}
use Rattle.kernel_state.proofs.Written.{tables_sound}

-- The answer's parts are bytes. No number of refusal is above 13, and tasks are below 32.
first_few : (l : List (Bool × ℕ)) → All (λ x. x.1 < 14) l → first_number l < 14
first_few [] a = omega arith
first_few (x ∷ l) a = go x.0 (first_few l a.1)
  where
    go : (b : Bool) → first_number l < 14 → cond b x.1 (first_number l) < 14
    go true h = a.0
    go false h = h

numbers_few : (k : Kind) (m : Machine) (c : Command) → All (λ x. x.1 < 14) (checks_of k m c)
numbers_few NoKind m c = omega arith
numbers_few Creating m c = omega arith
numbers_few Declaring m c = omega arith
numbers_few Starting m c = omega arith
numbers_few Delaying m c = omega arith
numbers_few Waking m c = omega arith
numbers_few Advancing m c = omega arith
numbers_few Opening m c = omega arith
numbers_few Entering m c = omega arith
numbers_few (Ending e) m c = omega arith

code_few : (m : Machine) (c : Command) → refusal m c < 14
unfolding refusal
code_few m c = first_few (checks m c) (numbers_few (kind c) m c)

running_few : (m : Machine) → Sound m → running m < 32
running_few m s = go m.started
  where
    go : (b : Bool) → cond b (runner m) 0 < 32
    go true = runner_known m s
    go false = omega arith

released_few : (m : Machine) → Sound m → (c : Command) → released m c < 32
released_few m s c = go (eqb (released m c) 0) refl
  where
    go : (b : Bool) → eqb (released m c) 0 ≡ b → released m c < 32
    go true e = omega (arith, eqb-true (released m c) 0 e)
    go false e = known m s (released m c) (released_stands m s c (eqb-false _ _ e))

pub answer_small : (st : State) (c : Command) → is_sound st ≡ true
    → let a = (step_of st c).answer in (a.code < 14) × (a.running.0 < 32) × (a.released.0 < 32)
unfolding step_of answer view
answer_small st c e =
    let m = K.view st.kernel in
    let s = (stands st.kernel (tables_sound st e)).machine in
    rw e (code_few m c, running_few (R.next m c) (Rules.next_sound m s c), released_few m s c)
