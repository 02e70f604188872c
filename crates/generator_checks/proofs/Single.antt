-- No second answer: of any tables and numbers only one answer meets the contract as the check states it. (The law: crate one_answer, proofs/Law.)
-- Assumes nothing.
use seplogic.Ra.Ura.{Ura}
use base.Logic.{SProp}
use prog.Memory.{Memory}
use prog.Routine.{Routine}
use types.Logic.{Logic}
use contract.Monad.{Fun}
use Rattle.one_answer.proofs.Law.{OneAnswer, one}
use Rattle.generator_checks.specs.contracts.is_good
use Rattle.generator_checks.specs.contracts.refusal

module _ {M : Type 1} {𝓤 : Ura M} (𝓛 : Logic 𝓤) (mem : Memory → SProp 𝓤) (run : Routine → Fun 𝓤) where
  pub is_good_single : OneAnswer 𝓤 is_good.ended (is_good.clauses 𝓛 mem run)
  is_good_single κs a g r s d e = one 𝓤 _ _ _

  pub refusal_single : OneAnswer 𝓤 refusal.ended (refusal.clauses 𝓛 mem run)
  refusal_single κs a g r s d e = one 𝓤 _ _ _
