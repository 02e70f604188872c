-- The two ways of a step: refused, and nothing changes; or accepted, and an allowed row is carried out. So every step keeps a sound state
-- sound, and every run from the fresh machine is through sound states. Assumes nothing.
use Prim.Native.Nat.{◌+◌}
use mathlib.Core.Path.{◌≡◌, refl, ◌∙◌}
use mathlib.Core.Bool.{Bool, true, false, and-true, and-false}
use mathlib.Core.List.{List, [], ◌∷◌}
use lib.Dec.{eqb}
use borrow.Author.Tests.{eqb-true}
use Rattle.rules.specs.Line.{all_below}
use Rattle.rules.specs.Machine.{Machine, Command, fresh}
use Rattle.rules.specs.Table.{Out, same, take, yield, close, sleep, await, Rel, none, due, serve, Effect, nothing, creates, declares, begins, moves}
use Rattle.rules.specs.Table.{effect, release, leave, carry, freed_by}
use Rattle.rules.specs.Refusals.{refusal}
use Rattle.rules.specs.Sound.{sound}
use Rattle.rules.specs.Run.{next, released, run}
use Rattle.rules.proofs.Words.{wakes}
use Rattle.rules.proofs.Sounds.{Sound, tests_sound}
use Rattle.rules.proofs.Kept.{release_sound, leave_sound}
use Rattle.rules.proofs.SetUp.{create_sound, declare_sound, timed_sound}
use Rattle.rules.proofs.Accepted.{Allowed, allowed}

-- What release and way out leave alone: the bases, the clock, and whether the machine is started.
abbrev pub Rest : Machine → Machine → Type 0
Rest n m = (n.base ≡ m.base) × (n.clock ≡ m.clock) × (n.started ≡ m.started)

pub release_rest : (rel : Rel) (m : Machine) → Rest (release rel m) m
unfolding release
release_rest none m = (refl, refl, refl)
release_rest due m = (refl, refl, refl)
release_rest (serve o n) m = (refl, refl, refl)

leave_rest : (out : Out) (m : Machine) → Rest (leave out m) m
unfolding leave
leave_rest same m = (refl, refl, refl)
leave_rest (take o w) m = (refl, refl, refl)
leave_rest yield m = (refl, refl, refl)
leave_rest close m = (refl, refl, refl)
leave_rest (sleep d) m = (refl, refl, refl)
leave_rest (await o) m = (refl, refl, refl)

pub moved_rest : (out : Out) (rel : Rel) (m : Machine) → Rest (leave out (release rel m)) m
moved_rest out rel m =
    let l = leave_rest out (release rel m) in
    let r = release_rest rel m in
    (l.0 ∙ r.0, l.1 ∙ r.1, l.2 ∙ r.2)

pub moved_started : (out : Out) (rel : Rel) (m : Machine) → (leave out (release rel m)).started ≡ m.started
moved_started out rel m = (moved_rest out rel m).2

-- An allowed row leaves a sound state.
pub carry_sound : (m : Machine) (s : Sound m) (e : Effect) → Allowed m e → Sound (carry m e)
unfolding carry
carry_sound m s nothing g = s
carry_sound m s (creates t p) g = create_sound m s t p g
carry_sound m s (declares o p) g = declare_sound m s o p g
carry_sound m s begins g = timed_sound m s m.clock true s.in_time.clock_fits refl
carry_sound m s (moves out rel n) g =
    let n₁ = release_sound m s g.on rel in
    let n₂ = leave_sound (release rel m) n₁ ((release_rest rel m).2 ∙ g.on) out g.leaves in
    timed_sound (leave out (release rel m)) n₂ ((leave out (release rel m)).clock + n) (leave out (release rel m)).started
    (rw (moved_rest out rel m).1 g.in_time) (moved_started out rel m ∙ g.on)

-- The two ways of a step.
pub data Step (m : Machine) (c : Command) : Type 0 where
  kept : next m c ≡ m → released m c ≡ 0 → wakes m c ≡ false → Step m c
  carried : next m c ≡ carry m (effect m c) → released m c ≡ freed_by (effect m c) m → wakes m c ≡ eqb c.op 5 → Allowed m (effect m c) → Step m c

pub step : (m : Machine) → Sound m → (c : Command) → Step m c
unfolding next released wakes
step m s c = go (eqb (refusal m c) 0) refl
  where
    go : (b : Bool) → eqb (refusal m c) 0 ≡ b → Step m c
    go true e = carried (rw e) (rw e) (rw e (and-true (eqb c.op 5))) (allowed m s c (eqb-true _ _ e))
    go false e = kept (rw e) (rw e) (rw e (and-false (eqb c.op 5)))

pub next_sound : (m : Machine) → Sound m → (c : Command) → Sound (next m c)
next_sound m s c = go (step m s c)
  where
    go : Step m c → Sound (next m c)
    go (kept e f w) = rw e s
    go (carried e f w g) = rw e (carry_sound m s (effect m c) g)

pub run_sound : (cs : List Command) (m : Machine) → Sound m → Sound (run m cs)
unfolding run
run_sound [] m s = s
run_sound (c ∷ cs) m s = run_sound cs (next m c) (next_sound m s c)

pub fresh_test : sound fresh ≡ true
unfolding sound all_below
fresh_test = refl

pub fresh_sound : Sound fresh
fresh_sound = (tests_sound fresh).sure fresh_test
