-- No second answer of the functions on refusals: of any arguments, only one answer meets each contract as the check states it (the law and what it says:
-- crate one_answer, proofs/Law). Assumes nothing.
use seplogic.Ra.Ura.{Ura}
use base.Logic.{SProp}
use prog.Memory.{Memory}
use prog.Routine.{Routine}
use types.Logic.{Logic}
use contract.Monad.{Fun}
use Rattle.one_answer.proofs.Law.{OneAnswer, one}
use Rattle.rules.specs.contracts.Refusal.number
use Rattle.rules.specs.contracts.code

module _ {M : Type 1} {𝓤 : Ura M} (𝓛 : Logic 𝓤) (mem : Memory → SProp 𝓤) (run : Routine → Fun 𝓤) where
  pub number_single : OneAnswer 𝓤 number.ended (number.clauses 𝓛 mem run)
  number_single κs a g r s d e = one 𝓤 _ _ _

  pub code_single : OneAnswer 𝓤 code.ended (code.clauses 𝓛 mem run)
  code_single κs a g r s d e = one 𝓤 _ _ _
