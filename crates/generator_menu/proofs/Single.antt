-- No second answer: of any tables and numbers only one answer meets the contract as the check states it. (The law: crate one_answer, proofs/Law.)
-- Assumes nothing.
use seplogic.Ra.Ura.{Ura}
use base.Logic.{SProp}
use prog.Memory.{Memory}
use prog.Routine.{Routine}
use types.Logic.{Logic}
use contract.Monad.{Fun}
use Rattle.one_answer.proofs.Law.{OneAnswer, one}
use Rattle.generator_menu.specs.contracts.make_evenly
use Rattle.generator_menu.specs.contracts.pick_command

module _ {M : Type 1} {𝓤 : Ura M} (𝓛 : Logic 𝓤) (mem : Memory → SProp 𝓤) (run : Routine → Fun 𝓤) where
  pub pick_command_single : OneAnswer 𝓤 pick_command.ended (pick_command.clauses 𝓛 mem run)
  pick_command_single κs a g r s d e = one 𝓤 _ _ _

  pub make_evenly_single : OneAnswer 𝓤 make_evenly.ended (make_evenly.clauses 𝓛 mem run)
  make_evenly_single κs a g r s d e = one 𝓤 _ _ _
