-- No second answer of decimal's public functions: of any word, number and buffer, only one answer meets the contract as the check states it, and of the
-- buffer that is lent only one contents is left behind. Rules out: a contract that leaves a number or a printed byte open. Leaves: which answer it is
-- (specs/). (The law: crate one_answer, proofs/Law.) Assumes nothing.
use seplogic.Ra.Ura.{Ura}
use base.Logic.{SProp}
use prog.Memory.{Memory}
use prog.Routine.{Routine}
use types.Logic.{Logic}
use contract.Monad.{Fun}
use Rattle.one_answer.proofs.Law.{OneAnswer, one}
use Rattle.decimal_read.specs.contracts.number

module _ {M : Type 1} {𝓤 : Ura M} (𝓛 : Logic 𝓤) (mem : Memory → SProp 𝓤) (run : Routine → Fun 𝓤) where
  pub number_single : OneAnswer 𝓤 number.ended (number.clauses 𝓛 mem run)
  number_single κs a g r s d e = one 𝓤 _ _ _
