-- What is written is tidy and sound. So the step from the tables of a sound machine writes the tables of the rules' next machine, and a
-- sound state is the tables of the machine that it stands for. Assumes nothing.
use Prim.Native.Nat.{ℕ, ◌≤◌, ◌<◌}
use native.Mathlib.Omega.{arith}
use mathlib.Core.Path.{◌≡◌, refl, sym, ap, ◌∙◌, subst}
use mathlib.Core.Logic.{◌≢◌, ⊎_elim}
use mathlib.Core.List.{List}
use mathlib.Core.Bool.{Bool, true, false, cond}
use lib.ListN.{length-map}
use borrow.Author.Tests.{ne_eqb}
use Rattle.rules.specs.Line.{count, front}
use Rattle.rules.specs.Machine.{Machine, Command, tasks}
use Rattle.rules.specs.Sound.{sound}
use Rattle.rules.specs.Refusals.{refusal}
use Rattle.rules.specs.Run.{next, answer}
use Rattle.rules.proofs.Tests.{both_true}
use Rattle.kernel_order.specs.Order.{ended}
use Rattle.rules.proofs.Lists.{lt_or_ge}
use Rattle.rules.proofs.Sounds.{Sound, tests_sound}
use Rattle.rules.proofs.Step.{next_sound}
use Rattle.kernel.specs.declared.Kernel.{Kernel}
use Rattle.kernel.specs.View.{live, with_idle, pad, times, encode, view, tidy}
use Rattle.kernel.specs.Public.{is_sound, report, shape, step_of}
use Rattle.kernel.proofs.Padded.{pad_size, ended_ready, ended_live, tasks_timed, times_size, times_absent}
use Rattle.kernel.proofs.Round.{Tidy, tests_tidy, encode_view, view_encode}

module _ (m : Machine) (s : Sound m) where
  ready_back : with_idle (pad 32 m.ready) ≡ m.ready
  unfolding view encode
  ready_back = ap (λ (n : Machine). n.ready) (view_encode m s)

  delay_back : live (pad 32 (tasks m.delay)) ≡ tasks m.delay
  unfolding view encode
  delay_back = sym (tasks_timed (times m.delay) (live (pad 32 (tasks m.delay)))) ∙ ap (λ (n : Machine). tasks n.delay) (view_encode m s)

  pub encode_tidy : Tidy (encode m)
  unfolding encode
  encode_tidy = record {
    sizes = record {
      base = s.tables_sized.base_size;
      ready = pad_size 32 m.ready;
      delayed = pad_size 32 (tasks m.delay);
      held = s.tables_sized.held_size;
      way = s.tables_sized.way_size;
      until = times_size m.delay;
      ceiling = s.tables_sized.ceiling_size;
      waiter = length-map m.queue (front 0) ∙ s.tables_sized.queue_size;
    };
    ready_ended = subst (λ (l : List ℕ). ended (pad 32 l) ≡ true) ready_back (ended_ready 32 (pad 32 m.ready));
    delayed_ended = subst (λ (l : List ℕ). ended (pad 32 l) ≡ true) delay_back (ended_live 32 (pad 32 (tasks m.delay)));
    untimed = λ t h n.
        rw delay_back
        (⊎_elim (λ (z : count t (tasks m.delay) < 1). absurd (n (times_absent t m.delay (omega arith)))) (λ (z : 1 ≤ count t (tasks m.delay)). z)
        (lt_or_ge (count t (tasks m.delay)) 1));
  }

  pub encode_sound : is_sound (encode m) ≡ true
  unfolding is_sound
  encode_sound = rw ((tests_tidy (encode m)).found encode_tidy, view_encode m s, (tests_sound m).found s)

  -- the step from what is written
  pub step_on : (c : Command) → step_of (encode m) c ≡ report (encode (next m c)) (answer m c)
  unfolding step_of
  step_on c = rw (encode_sound, view_encode m s)

-- A sound state: the machine that it stands for is sound, and the state is its tables.
pub record Stands (k : Kernel) : Type 0 where
  pub machine : Sound (view k)
  pub written : encode (view k) ≡ k
  pub neat : Tidy k

pub stands : (k : Kernel) → is_sound k ≡ true → Stands k
unfolding is_sound
stands k e =
    let w = both_true (tidy k) (sound (view k)) e in
    let t = (tests_tidy k).sure w.0 in
    record { machine = (tests_sound (view k)).sure w.1; written = encode_view k t; neat = t }

-- two sound states that stand for one machine are one
pub view_one : (j k : Kernel) → is_sound j ≡ true → is_sound k ≡ true → view j ≡ view k → j ≡ k
view_one j k s t e = sym (stands j s).written ∙ (ap encode e ∙ (stands k t).written)

-- a step from a sound state leaves a sound state; a refused one, that very state
pub step_sound : (k : Kernel) (c : Command) → is_sound k ≡ true → is_sound (step_of k c).next ≡ true
unfolding step_of
step_sound k c e = rw e (encode_sound (next (view k) c) (next_sound (view k) (stands k e).machine c))

pub refused_keeps : (k : Kernel) (c : Command) → (step_of k c).answer.code ≢ 0 → (step_of k c).next ≡ k
unfolding step_of next answer
refused_keeps k c = go (is_sound k) refl
  where
    go : (b : Bool) → is_sound k ≡ b → (cond b (report (encode (next (view k) c)) (answer (view k) c)) (report k shape)).answer.code ≢ 0
        → (cond b (report (encode (next (view k) c)) (answer (view k) c)) (report k shape)).next ≡ k
    go true e n = rw (ne_eqb (refusal (view k) c) 0 n) (stands k e).written
    go false e n = refl
