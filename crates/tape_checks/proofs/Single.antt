-- No second answer of the writer's checks: of any length, place and record only one number meets the contract as the check states it (the law: crate
-- one_answer, proofs/Law). Assumes nothing.
use seplogic.Ra.Ura.{Ura}
use base.Logic.{SProp}
use prog.Memory.{Memory}
use prog.Routine.{Routine}
use types.Logic.{Logic}
use contract.Monad.{Fun}
use Rattle.one_answer.proofs.Law.{OneAnswer, one}
use Rattle.tape_checks.specs.contracts.write_code

module _ {M : Type 1} {𝓤 : Ura M} (𝓛 : Logic 𝓤) (mem : Memory → SProp 𝓤) (run : Routine → Fun 𝓤) where
  pub write_code_single : OneAnswer 𝓤 write_code.ended (write_code.clauses 𝓛 mem run)
  write_code_single κs a g r s d e = one 𝓤 _ _ _
