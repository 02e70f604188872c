-- The kernel's step, and what its answer does to the pending exceptions, are together the rules' step of the whole state. Assumes nothing.
use Prim.Native.Nat.{ℕ}
use native.Mathlib.Omega.{arith}
use mathlib.Core.Path.{◌≡◌, refl, sym}
use mathlib.Core.Bool.{Bool, true, false, ◌&&◌, and-false}
use lib.Dec.{eqb, ltb}
use borrow.Author.Tests.{eqb-true, eqb-false, lt-ltb}
use Rattle.rules.specs.Machine.{Machine, Command, runner}
use Rattle.rules.specs.Kinds.{kind}
use Rattle.rules.specs.Run.{accepts, released}
use Rattle.rules.specs.Run as R
use Rattle.rules.specs.Sound as S
use Rattle.rules.proofs.Tests.{both_true}
use Rattle.rules.proofs.Sounds.{Sound, tests_sound, known}
use Rattle.rules_exceptions.specs.Exceptions.{whose_of, owner, pending_sound, next, answer, sound}
use Rattle.rules_exceptions.proofs.Kept.{owner_stands}
use Rattle.kernel.specs.declared.Kernel.{Kernel}
use Rattle.kernel.specs.View.{tidy}
use Rattle.kernel.specs.View as K
use Rattle.kernel.specs.Public as P
use Rattle.kernel_ready.specs.Ready.{runner_in}
use Rattle.kernel_ready.proofs.Laws.{front_idle}
use Rattle.kernel_state.specs.declared.Stepped.{Stepped}
use Rattle.kernel_state.specs.Settle.{settled}
use Rattle.kernel_state.specs.Public.{both, view, encode, is_sound, report, shape, step_of, left_of}

-- The two steps together.
abbrev pub together : Kernel → ℕ → Command → Stepped
together k p c =
    let r = P.step_of k c in
    let s = settled p (whose_of (kind c)) (runner_in k.ready) r.answer in
    record {
      next = both r.next s.pending;
      answer = record { code = r.answer.code; running = r.answer.running; released = r.answer.released; exception = s.exception };
    }

-- whom an accepted command sets one for is a task, if it is anybody
owner_few : (m : Machine) → Sound m → (c : Command) → ltb (owner m c) 32 ≡ true
owner_few m s c = go (eqb (owner m c) 0) refl
  where
    go : (b : Bool) → eqb (owner m c) 0 ≡ b → ltb (owner m c) 32 ≡ true
    go true e = lt-ltb (owner m c) 32 (omega (arith, eqb-true (owner m c) 0 e))
    go false e = lt-ltb (owner m c) 32 (known m s (owner m c) (owner_stands m s c (eqb-false _ _ e)))

-- A state is sound just when its tables are and what is pending is.
pub sound_parts : (k : Kernel) (p : ℕ) → is_sound (both k p) ≡ (P.is_sound k && pending_sound k.started k.base p)
unfolding is_sound sound P.is_sound view K.view
sound_parts k p = regroup (tidy k) (S.sound (K.view k)) (pending_sound k.started k.base p)
  where
    regroup : (a b c : Bool) → (a && (b && c)) ≡ ((a && b) && c)
    regroup true b c = refl
    regroup false b c = refl

-- who ran, by the table and by the machine
pub ran : (k : Kernel) → runner_in k.ready ≡ runner (K.view k)
unfolding K.view
ran k = sym (front_idle k.ready)

stands : (k : Kernel) → P.is_sound k ≡ true → Sound (K.view k)
unfolding P.is_sound
stands k e = (tests_sound (K.view k)).sure (both_true (tidy k) (S.sound (K.view k)) e).1

-- a refused command leaves the machine
unmoved : (m : Machine) (c : Command) → accepts m c ≡ false → R.next m c ≡ m
unfolding R.next
unmoved m c e = rw e

pub settles : (k : Kernel) (p : ℕ) (c : Command) → pending_sound k.started k.base p ≡ true → together k p c ≡ step_of (both k p) c
unfolding step_of P.step_of next answer R.answer view encode
settles k p c h = go (P.is_sound k) (accepts (K.view k) c) refl refl
  where
    m : Machine
    m = K.view k

    go : (b ok : Bool) → P.is_sound k ≡ b → accepts (K.view k) c ≡ ok → together k p c ≡ step_of (both k p) c
    go true true e a = rw (sound_parts k p, e, h, a, ran k, owner_few m (stands k e) c)
    go true false e a = rw (sound_parts k p, e, h, a, unmoved m c a)
    go false ok e a = rw (sound_parts k p, e)

-- What is pending and not sound: Shape.
pub step_unsound : (k : Kernel) (p : ℕ) (c : Command) → pending_sound k.started k.base p ≡ false → report (both k p) shape ≡ step_of (both k p) c
unfolding step_of
step_unsound k p c h = rw (sound_parts k p, h, and-false (P.is_sound k))

-- "Wakes left" is the kernel's, which is 1 and 0 of unsound tables.
pub left_unsound : (k : Kernel) (p t : ℕ) → pending_sound k.started k.base p ≡ false → record { code = 1; left = 0 } ≡ left_of (both k p) t
unfolding left_of
left_unsound k p t h = rw (sound_parts k p, h, and-false (P.is_sound k))

pub left_sound : (k : Kernel) (p t : ℕ) → pending_sound k.started k.base p ≡ true → P.left_of k t ≡ left_of (both k p) t
unfolding left_of P.left_of
left_sound k p t h = go (P.is_sound k) refl
  where
    go : (b : Bool) → P.is_sound k ≡ b → P.left_of k t ≡ left_of (both k p) t
    go true e = rw (sound_parts k p, e, h)
    go false e = rw (sound_parts k p, e)
