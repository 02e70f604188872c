-- A whole state, written and read: what is written reads back, a sound state stays sound, a refusal leaves it. Assumes nothing.
use Prim.Native.Nat.{ℕ, ◌<◌, ◌^◌}
use mathlib.Core.Path.{◌≡◌, refl, sym, ap, ◌∙◌}
use mathlib.Core.Logic.{◌≢◌}
use mathlib.Core.Bool.{Bool, true, false, cond}
use Rattle.rules.specs.Machine.{Machine, Command}
use Rattle.rules.proofs.Tests.{both_true}
use Rattle.rules_exceptions.specs.Exceptions.{pending_sound, next, answer, sound}
use Rattle.rules_exceptions.specs.Exceptions as X
use Rattle.rules_exceptions.proofs.Kept.{Sounds, tests_pending, tests_state}
use Rattle.rules_exceptions.proofs.Theorems as exceptions
use Rattle.kernel.specs.declared.Kernel.{Kernel}
use Rattle.kernel.specs.View as K
use Rattle.kernel.specs.Public as P
use Rattle.kernel.proofs.Round as round
use Rattle.kernel.proofs.Written.{stands}
use Rattle.kernel.proofs.Written as tables
use Rattle.kernel_state.specs.declared.State.{State}
use Rattle.kernel_state.specs.Public.{view, encode, is_sound, report, shape, step_of}
use Rattle.kernel_state.proofs.Steps.{sound_parts, settles, together}

made : {m n : Machine} {p : ℕ} → m ≡ n → ◌≡◌ {A = X.State} (record { machine = m; pending = p }) (record { machine = n; pending = p })
made e = cc

made_tables : {j k : Kernel} {p : ℕ} → j ≡ k → ◌≡◌ {A = State} (record { kernel = j; pending = p }) (record { kernel = k; pending = p })
made_tables e = cc

-- a sound state: its tables are, and what is pending is
module _ (st : State) (e : is_sound st ≡ true) where
  parts : (P.is_sound st.kernel ≡ true) × (pending_sound st.kernel.started st.kernel.base st.pending ≡ true)
  parts = both_true _ _ (sym (sound_parts st.kernel st.pending) ∙ e)

  pub tables_sound : P.is_sound st.kernel ≡ true
  tables_sound = parts.0

  pub pending_is_sound : pending_sound st.kernel.started st.kernel.base st.pending ≡ true
  pending_is_sound = parts.1

  pub pending_few : st.pending < 2 ^ 32
  pending_few = ((tests_pending _ _ _).sure parts.1).few

  pub written_back : encode (view st) ≡ st
  unfolding encode view
  written_back = made_tables (stands st.kernel tables_sound).written

  pub machine_sound : sound (view st) ≡ true
  unfolding is_sound
  machine_sound = (both_true (K.tidy st.kernel) (sound (view st)) e).1

-- what is written is sound, reads back, and is stepped as the rules say
module _ (s : X.State) (h : sound s ≡ true) where
  held : Sounds s
  held = (tests_state s).sure h

  pub encode_sound : is_sound (encode s) ≡ true
  unfolding encode K.encode
  encode_sound =
      sound_parts (K.encode s.machine) s.pending
      ∙ rw (tables.encode_sound s.machine held.machine, (tests_pending _ _ _).found held.pending)

  pub view_encode : view (encode s) ≡ s
  unfolding encode view
  view_encode = made (round.view_encode s.machine held.machine)

  pub step_on : (c : Command) → step_of (encode s) c ≡ report (encode (next s c)) (answer s c)
  unfolding step_of
  step_on c = rw (encode_sound, view_encode)

-- a step leaves a sound state sound, and a refused one that very state
pub step_sound : (st : State) (c : Command) → is_sound st ≡ true → is_sound (step_of st c).next ≡ true
unfolding step_of
step_sound st c e = rw e (encode_sound (next (view st) c) (exceptions.step_keeps_sound (view st) c (machine_sound st e)))

pub refused_keeps : (st : State) (c : Command) → (step_of st c).answer.code ≢ 0 → ((step_of st c).next ≡ st) × ((step_of st c).answer.exception ≡ false)
unfolding step_of
refused_keeps st c = go (is_sound st) refl
  where
    go : (b : Bool) → is_sound st ≡ b → let r = cond b (report (encode (next (view st) c)) (answer (view st) c)) (report st shape) in
        r.answer.code ≢ 0 → (r.next ≡ st) × (r.answer.exception ≡ false)
    go true e n = let w = exceptions.refused_keeps (view st) c n in (ap encode w.0 ∙ written_back st e, w.1)
    go false e n = (refl, refl)

-- the step of a sound state is the kernel's, and what is settled by its answer; so its code is the kernel's
pub alike : (st : State) (c : Command) → is_sound st ≡ true → together st.kernel st.pending c ≡ step_of st c
alike st c e = settles st.kernel st.pending c (pending_is_sound st e)

pub same_code : (st : State) (c : Command) → is_sound st ≡ true → (step_of st c).answer.code ≡ (P.step_of st.kernel c).answer.code
same_code st c e = ap (λ r. r.answer.code) (sym (alike st c e))
