-- No second answer of the public function: of any state, queue and command only one answer meets the contract as the check states it. Rules out: a contract that leaves a part of the answer or of the queue open. Leaves: which answer it is (specs/Beside). (The law:
-- crate one_answer, proofs/Law.) Assumes nothing.
use seplogic.Ra.Ura.{Ura}
use base.Logic.{SProp}
use prog.Memory.{Memory}
use prog.Routine.{Routine}
use types.Logic.{Logic}
use contract.Monad.{Fun}
use Rattle.one_answer.proofs.Law.{OneAnswer, one}
use Rattle.queue_beside.specs.contracts.step

module _ {M : Type 1} {𝓤 : Ura M} (𝓛 : Logic 𝓤) (mem : Memory → SProp 𝓤) (run : Routine → Fun 𝓤) where
  pub step_single : OneAnswer 𝓤 step.ended (step.clauses 𝓛 mem run)
  step_single κs a g r s d e = one 𝓤 _ _ _
