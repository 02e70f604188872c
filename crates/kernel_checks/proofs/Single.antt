-- No second answer of the checks: of any command, and of any tables, only one kind and only one refusal meets the contract as the check states it (the law and
-- what it says: crate one_answer, proofs/Law). Leaves: which it is (the rules, of the machine that the tables show). Assumes nothing.
use seplogic.Ra.Ura.{Ura}
use base.Logic.{SProp}
use prog.Memory.{Memory}
use prog.Routine.{Routine}
use types.Logic.{Logic}
use contract.Monad.{Fun}
use Rattle.one_answer.proofs.Law.{OneAnswer, one, both}
use Rattle.rules.proofs.Codes.{one_code}
use Rattle.kernel_checks.specs.contracts.Command.kind
use Rattle.kernel_checks.specs.contracts.refusals.checked

module _ {M : Type 1} {𝓤 : Ura M} (𝓛 : Logic 𝓤) (mem : Memory → SProp 𝓤) (run : Routine → Fun 𝓤) where
  pub kind_single : OneAnswer 𝓤 kind.ended (kind.clauses 𝓛 mem run)
  kind_single κs a g r s d e = one 𝓤 _ _ _

  pub checked_single : OneAnswer 𝓤 checked.ended (checked.clauses 𝓛 mem run)
  checked_single κs a g r s d e = both 𝓤 _ _ _ one_code
