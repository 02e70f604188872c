-- A sound state stays sound: its pending exceptions are of created tasks 1..31, and there is none before Start. What the test says, as a statement;
-- and that every step keeps it. Assumes nothing.
use Prim.Native.Nat.{ℕ, ◌≤◌, ◌<◌, ◌^◌}
use native.Mathlib.Omega.{arith}
use mathlib.Core.Path.{◌≡◌, refl, sym, ap, ◌∙◌}
use mathlib.Core.Logic.{◌≢◌, ⊎_elim}
use mathlib.Core.Bool.{Bool, true, false, cond, not, true≢false}
use mathlib.Core.List.{List, [], ◌∷◌}
use lib.Dec.{eqb}
use borrow.Author.Tests.{eqb-true, eqb-false}
use Rattle.rules.specs.Line.{at, front}
use Rattle.rules.specs.Machine.{Machine, Command, task_count, runner, running}
use Rattle.rules.specs.declared.Whose.{Whose}
use Rattle.rules.specs.declared.Whose.TheVariants.{Nobody, Runner, Released}
use Rattle.rules.specs.declared.Kind.{Kind}
use Rattle.rules.specs.declared.Kind.TheVariants.{NoKind, Creating, Declaring, Starting, Delaying, Waking, Advancing, Opening, Entering, Ending}
use Rattle.rules.specs.Kinds.{kind}
use Rattle.rules.specs.Table.{Effect, nothing, creates, declares, begins, moves, effect_of, effect, freed, carry}
use Rattle.rules.specs.Sound.{standings}
use Rattle.rules.specs.Run.{accepts, released}
use Rattle.rules.specs.Run as R
use Rattle.rules.proofs.Tests.{Tests, both_true, tests_is, tests_lt, tests_ne, tests_map, tests_and, tests_or, tests_all_below}
use Rattle.rules.proofs.Lists.{eq_or_ne}
use Rattle.rules.proofs.Sounds.{Sound, tests_sound, known, based, runner_there}
use Rattle.rules.proofs.Kept.{freed_elsewhere}
use Rattle.rules.proofs.Accepted.{Allowed, allowed, rel_of}
use Rattle.rules.proofs.Step.{Step, kept, carried, step, moved_started}
use Rattle.rules.proofs.Step as Rules
use Rattle.rules.proofs.Release.{front_counts, freed_of, next_tables}
use Rattle.rules_exceptions.specs.Exceptions.{State, has, raised, cleared, whose_of, task_of, owner, pending_then, next, run, fresh, pending_sound, sound}
use Rattle.rules_exceptions.proofs.Bits.{has_none, has_set, has_idle, has_cleared, has_below, raised_below, cleared_below}

-- What the test of the pending exceptions says, and nothing else (`tests_pending`).
pub record PendingSound (started : Bool) (base : List ℕ) (p : ℕ) : Type 0 where
  pub few : p < 2 ^ task_count
  pub whose : (t : ℕ) → has p t ≡ true → (started ≡ true) × (t ≢ 0) × (at base t ≢ 0)

tests_off : (b : Bool) → Tests (not b) (b ≡ true → ⊥)
tests_off true = record { sure = λ e. absurd (true≢false (sym e)); found = λ n. absurd (n refl) }
tests_off false = record { sure = λ e q. true≢false (sym q); found = λ n. refl }

pub tests_pending : (started : Bool) (base : List ℕ) (p : ℕ) → Tests (pending_sound started base p) (PendingSound started base p)
unfolding pending_sound
tests_pending started base p =
    tests_map
    (λ w. record { few = w.0; whose = λ t e. (let f = w.1 t (has_below task_count p t w.0 e) (λ n. n e) in (f.0.0, f.0.1, f.1)) })
    (λ s. (s.few, λ t l n. (let f = s.whose t (held t n) in ((f.0, f.1), f.2))))
    (tests_and (tests_lt p (2 ^ task_count))
    (tests_all_below
    (λ t. tests_or (tests_off (has p t)) (tests_and (tests_and (tests_is started) (tests_ne t 0)) (tests_ne (at base t) 0))) task_count))
  where
    held : (t : ℕ) → ((has p t ≡ true → ⊥) → ⊥) → has p t ≡ true
    held t n = go (has p t) n
      where
        go : (b : Bool) → ((b ≡ true → ⊥) → ⊥) → b ≡ true
        go true n = refl
        go false n = absurd (n (λ e. true≢false (sym e)))

-- A sound state, as statements.
pub record Sounds (s : State) : Type 0 where
  pub machine : Sound s.machine
  pub pending : PendingSound s.machine.started s.machine.base s.pending

pub tests_state : (s : State) → Tests (sound s) (Sounds s)
unfolding sound
tests_state s =
    tests_map (λ w. record { machine = w.0; pending = w.1 }) (λ w. (w.machine, w.pending))
    (tests_and (tests_sound s.machine) (tests_pending s.machine.started s.machine.base s.pending))

-- idle has none pending
pub idle_none : {s : State} → Sounds s → has s.pending 0 ≡ false
idle_none {s} k = go (has s.pending 0) refl
  where
    go : (b : Bool) → has s.pending 0 ≡ b → has s.pending 0 ≡ false
    go true e = absurd ((k.pending.whose 0 e).1 refl)
    go false e = e

-- Whom an accepted command sets one for: of a started machine, and a task that stands somewhere in it.
module _ (m : Machine) (s : Sound m) (c : Command) where
  pub released_stands : released m c ≢ 0 → 1 ≤ standings m (released m c)
  released_stands n = go (step m s c)
    where
      go : Step m c → 1 ≤ standings m (released m c)
      go (kept e f w) = absurd (n f)
      go (carried e f w g) =
          let rel = rel_of (effect m c) in
          let q : released m c ≡ front 0 (freed rel m) = f ∙ freed_of (effect m c) m in
          rw q (omega (arith, front_counts (freed rel m) (λ z. n (q ∙ z)), freed_elsewhere m s rel (front 0 (freed rel m))))

  pub owner_stands : owner m c ≢ 0 → 1 ≤ standings m (owner m c)
  owner_stands n = go (whose_of (kind c)) n
    where
      go : (w : Whose) → task_of w (runner m) (released m c) ≢ 0 → 1 ≤ standings m (task_of w (runner m) (released m c))
      go Nobody n = absurd (n refl)
      go Runner n = omega (arith, runner_there m s)
      go Released n = released_stands n

  pub owner_started : accepts m c ≡ true → owner m c ≢ 0 → m.started ≡ true
  owner_started ok n = go (kind c) (allowed m s c (eqb-true _ _ ok)) n
    where
      go : (k : Kind) → Allowed m (effect_of k m c) → task_of (whose_of k) (runner m) (released m c) ≢ 0 → m.started ≡ true
      go NoKind g n = absurd (n refl)
      go Creating g n = absurd (n refl)
      go Declaring g n = absurd (n refl)
      go Starting g n = absurd (n refl)
      go Delaying g n = absurd (n refl)
      go Waking g n = absurd (n refl)
      go Advancing g n = absurd (n refl)
      go Opening g n = absurd (n refl)
      go Entering g n = absurd (n refl)
      go (Ending e) g n = g.on

  -- a started machine stays so, and keeps its bases
  pub stays_started : m.started ≡ true → (R.next m c).started ≡ true
  unfolding carry
  stays_started on = go (step m s c)
    where
      by_effect : (e : Effect) → Allowed m e → (carry m e).started ≡ true
      by_effect nothing g = on
      by_effect (creates t p) g = on
      by_effect (declares o p) g = on
      by_effect begins g = refl
      by_effect (moves out rel n) g = moved_started out rel m ∙ on

      go : Step m c → (R.next m c).started ≡ true
      go (kept e f w) = rw e on
      go (carried e f w g) = rw e (by_effect (effect m c) g)

  -- One is pending behind an accepted command, before its answer: it was, or this command sets it.
  pending_then_sound : accepts m c ≡ true → (p : ℕ) → PendingSound m.started m.base p → PendingSound m.started m.base (raised p (owner m c))
  pending_then_sound ok p g = record {
    few = below (eqb (owner m c) 0) refl;
    whose = λ t e. ⊎_elim (idle t e) (λ (n : t ≢ 0). other t e n (has p t) refl) (eq_or_ne t 0);
  }
    where
      below : (b : Bool) → eqb (owner m c) 0 ≡ b → raised p (owner m c) < 2 ^ task_count
      below true e = rw (eqb-true (owner m c) 0 e) g.few
      below false e = raised_below task_count p (owner m c) g.few (known m s (owner m c) (owner_stands (eqb-false _ _ e)))

      idle : (t : ℕ) → has (raised p (owner m c)) t ≡ true → t ≡ 0 → (m.started ≡ true) × (t ≢ 0) × (at m.base t ≢ 0)
      idle t e z = absurd ((g.whose 0 (sym (has_idle p (owner m c)) ∙ (rw z at e))).1 refl)

      set : owner m c ≢ 0 → (m.started ≡ true) × (owner m c ≢ 0) × (at m.base (owner m c) ≢ 0)
      set n = let b = based m s (owner m c) (owner_stands n) n in (owner_started ok n, n, λ z. omega arith)

      other : (t : ℕ) → has (raised p (owner m c)) t ≡ true → t ≢ 0 → (b : Bool) → has p t ≡ b → (m.started ≡ true) × (t ≢ 0) × (at m.base t ≢ 0)
      other t e n true h = g.whose t h
      other t e n false h =
          let q : owner m c ≡ t = eqb-true _ _ (rw h at (sym (has_set p (owner m c) t n) ∙ e)) in
          rw q at (set (λ z. n (sym q ∙ z)))

-- An answer clears one, and sets none.
cleared_sound : (started : Bool) (base : List ℕ) (p t : ℕ) → PendingSound started base p → PendingSound started base (cleared p t)
cleared_sound started base p t g = record {
  few = cleared_below task_count p t g.few;
  whose = λ u e. g.whose u (both_true (has p u) (not (eqb t u)) (sym (has_cleared p t u) ∙ e)).0;
}

-- What is sound stays so when the machine has moved on.
moved_sound : (m : Machine) → Sound m → (c : Command) (p : ℕ) → PendingSound m.started m.base p
    → PendingSound (R.next m c).started (R.next m c).base p
moved_sound m s c p g = record {
  few = g.few;
  whose = λ t e. (let w = g.whose t e in (stays_started m s c w.0, w.1, λ z. w.2 (sym (ap (λ (b : List ℕ). at b t) (next_tables m s w.0 c).0) ∙ z)));
}

pub fresh_sound : Sounds fresh
fresh_sound = record { machine = Rules.fresh_sound; pending = record { few = omega arith; whose = λ t e. absurd (true≢false (sym e ∙ has_none t)) } }

pub next_sound : (s : State) → Sounds s → (c : Command) → Sounds (next s c)
unfolding next
next_sound s k c = go (accepts s.machine c) refl
  where
    m : Machine
    m = s.machine

    go : (b : Bool) → accepts m c ≡ b → Sounds (cond b (record { machine = R.next m c; pending = cleared (pending_then s c) (running (R.next m c)) }) s)
    go true e = record {
      machine = Rules.next_sound m k.machine c;
      pending = cleared_sound _ _ _ _ (moved_sound m k.machine c _ (pending_then_sound m k.machine c e s.pending k.pending));
    }
    go false e = k

pub run_sound : (cs : List Command) (s : State) → Sounds s → Sounds (run s cs)
unfolding run
run_sound [] s k = k
run_sound (c ∷ cs) s k = run_sound cs (next s c) (next_sound s k c)
