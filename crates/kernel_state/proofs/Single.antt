-- No second answer of the public functions: of any state and any command, only one answer meets the contract as the check states it.
-- Rules out: a contract that leaves a part of an answer, or of what is pending, open. Leaves: which answer it is (specs/Public, Settle). (The law: crate
-- one_answer, proofs/Law.) Assumes nothing.
use seplogic.Ra.Ura.{Ura}
use base.Logic.{SProp}
use prog.Memory.{Memory}
use prog.Routine.{Routine}
use types.Logic.{Logic}
use contract.Monad.{Fun}
use Rattle.one_answer.proofs.Law.{OneAnswer, OneEnd, one, both, each_of_two}
use Rattle.kernel_state.specs.declared.State.{State}
use Rattle.kernel_state.specs.declared.Answer.{Answer}
use Rattle.kernel_state.specs.contracts.whose
use Rattle.kernel_state.specs.contracts.settle
use Rattle.kernel_state.specs.contracts.bits.pending_sound
use Rattle.kernel_state.specs.contracts.in_place.step as in-place-step
use Rattle.kernel_state.specs.contracts.State.fresh
use Rattle.kernel_state.specs.contracts.State.sound
use Rattle.kernel_state.specs.contracts.State.step
use Rattle.kernel_state.specs.contracts.State.wakes_left

module _ {M : Type 1} {𝓤 : Ura M} (𝓛 : Logic 𝓤) (mem : Memory → SProp 𝓤) (run : Routine → Fun 𝓤) where
  pub whose_single : OneAnswer 𝓤 whose.ended (whose.clauses 𝓛 mem run)
  whose_single κs a g r s d e = one 𝓤 _ _ _

  pub settle_single : OneAnswer 𝓤 settle.ended (settle.clauses 𝓛 mem run)
  settle_single κs a g r s d e = one 𝓤 _ _ _

  pub pending_sound_single : OneAnswer 𝓤 pending_sound.ended (pending_sound.clauses 𝓛 mem run)
  pending_sound_single κs a g r s d e = one 𝓤 _ _ _

  pub in_place_step_single : OneEnd 𝓤 in-place-step.ended (in-place-step.clauses 𝓛 mem run) (State × Answer)
      (λ κs r e. (e.0.now, r))
  in_place_step_single κs a g r s d e = both 𝓤 _ _ _ each_of_two

  pub fresh_single : OneAnswer 𝓤 fresh.ended (fresh.clauses 𝓛 mem run)
  fresh_single κs a g r s d e = one 𝓤 _ _ _

  pub sound_single : OneAnswer 𝓤 sound.ended (sound.clauses 𝓛 mem run)
  sound_single κs a g r s d e = one 𝓤 _ _ _

  pub step_single : OneAnswer 𝓤 step.ended (step.clauses 𝓛 mem run)
  step_single κs a g r s d e = one 𝓤 _ _ _

  pub wakes_left_single : OneAnswer 𝓤 wakes_left.ended (wakes_left.clauses 𝓛 mem run)
  wakes_left_single κs a g r s d e = one 𝓤 _ _ _
