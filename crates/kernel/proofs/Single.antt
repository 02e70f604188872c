-- No second answer of the kernel's public functions: of any state, command and task, only one answer meets the contract as the check states it.
-- The answer of a step is the whole next state beside code, running and released; of a step in place what it leaves in the ten tables, beside the same.
-- Rules out: a contract that leaves a cell of the state or a part of the answer open, for a refusal as for an accepted command.
-- Leaves: which answer it is (specs/Public, and so the rules). (The law: crate one_answer, proofs/Law.) Assumes nothing.
use seplogic.Ra.Ura.{Ura}
use base.Logic.{SProp}
use prog.Memory.{Memory}
use prog.Routine.{Routine}
use types.Logic.{Logic}
use contract.Monad.{Fun}
use Rattle.one_answer.proofs.Law.{OneAnswer, OneEnd, one, both, each_of_two}
use Rattle.kernel.specs.declared.Kernel.{Kernel}
use Rattle.kernel.specs.declared.command.Answer.{Answer}
use Rattle.kernel.specs.Lent.{tables}
use Rattle.kernel.specs.contracts.Kernel.fresh
use Rattle.kernel.specs.contracts.Kernel.sound
use Rattle.kernel.specs.contracts.Kernel.step
use Rattle.kernel.specs.contracts.Kernel.wakes_left
use Rattle.kernel.specs.contracts.in_place.sound as in-place-sound
use Rattle.kernel.specs.contracts.in_place.step as in-place-step
use Rattle.kernel.specs.contracts.in_place.step_trusting as in-place-step-trusting
use Rattle.kernel.specs.contracts.in_place.running as in-place-running
use Rattle.kernel.specs.contracts.on_tables.sound as on-tables-sound
use Rattle.kernel.specs.contracts.on_tables.step as on-tables-step
use Rattle.kernel.specs.contracts.on_tables.step_trusting as on-tables-step-trusting

module _ {M : Type 1} {𝓤 : Ura M} (𝓛 : Logic 𝓤) (mem : Memory → SProp 𝓤) (run : Routine → Fun 𝓤) where
  pub fresh_single : OneAnswer 𝓤 fresh.ended (fresh.clauses 𝓛 mem run)
  fresh_single κs a g r s d e = one 𝓤 _ _ _

  pub sound_single : OneAnswer 𝓤 sound.ended (sound.clauses 𝓛 mem run)
  sound_single κs a g r s d e = one 𝓤 _ _ _

  pub step_single : OneAnswer 𝓤 step.ended (step.clauses 𝓛 mem run)
  step_single κs a g r s d e = one 𝓤 _ _ _

  pub wakes_left_single : OneAnswer 𝓤 wakes_left.ended (wakes_left.clauses 𝓛 mem run)
  wakes_left_single κs a g r s d e = one 𝓤 _ _ _

  pub in_place_sound_single : OneAnswer 𝓤 in-place-sound.ended (in-place-sound.clauses 𝓛 mem run)
  in_place_sound_single κs a g r s d e = one 𝓤 _ _ _

  pub in_place_running_single : OneAnswer 𝓤 in-place-running.ended (in-place-running.clauses 𝓛 mem run)
  in_place_running_single κs a g r s d e = one 𝓤 _ _ _

  pub in_place_step_single : OneEnd 𝓤 in-place-step.ended (in-place-step.clauses 𝓛 mem run) (Kernel × Answer)
      (λ κs r e. (e.0.now, r))
  in_place_step_single κs a g r s d e = both 𝓤 _ _ _ each_of_two

  pub in_place_step_trusting_single : OneEnd 𝓤 in-place-step-trusting.ended (in-place-step-trusting.clauses 𝓛 mem run) (Kernel × Answer)
      (λ κs r e. (e.0.now, r))
  in_place_step_trusting_single κs a g r s d e = both 𝓤 _ _ _ each_of_two

  pub on_tables_sound_single : OneAnswer 𝓤 on-tables-sound.ended (on-tables-sound.clauses 𝓛 mem run)
  on_tables_sound_single κs a g r s d e = one 𝓤 _ _ _

  pub on_tables_step_single : OneEnd 𝓤 on-tables-step.ended (on-tables-step.clauses 𝓛 mem run) (Kernel × Answer)
      (λ κs r e. (
        tables e.0.now e.1.0.now e.1.1.0.now e.1.1.1.0.now e.1.1.1.1.0.now e.1.1.1.1.1.0.now
            e.1.1.1.1.1.1.0.now e.1.1.1.1.1.1.1.0.now e.1.1.1.1.1.1.1.1.0.now
            e.1.1.1.1.1.1.1.1.1.0.now,
        r,
      ))
  on_tables_step_single κs a g r s d e = both 𝓤 _ _ _ each_of_two

  pub on_tables_step_trusting_single : OneEnd 𝓤 on-tables-step-trusting.ended (on-tables-step-trusting.clauses 𝓛 mem run) (Kernel × Answer)
      (λ κs r e. (
        tables e.0.now e.1.0.now e.1.1.0.now e.1.1.1.0.now e.1.1.1.1.0.now e.1.1.1.1.1.0.now
            e.1.1.1.1.1.1.0.now e.1.1.1.1.1.1.1.0.now e.1.1.1.1.1.1.1.1.0.now
            e.1.1.1.1.1.1.1.1.1.0.now,
        r,
      ))
  on_tables_step_trusting_single κs a g r s d e = both 𝓤 _ _ _ each_of_two
