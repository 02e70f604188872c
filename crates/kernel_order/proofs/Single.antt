-- No second answer of the tests of a line: of any lines and tables, only one answer meets each contract (the law and what it says: crate one_answer,
-- proofs/Law). Assumes nothing.
use seplogic.Ra.Ura.{Ura}
use base.Logic.{SProp}
use prog.Memory.{Memory}
use prog.Routine.{Routine}
use types.Logic.{Logic}
use contract.Monad.{Fun}
use Rattle.one_answer.proofs.Law.{OneAnswer, one}
use Rattle.kernel_order.specs.contracts.is_ended
use Rattle.kernel_order.specs.contracts.is_free
use Rattle.kernel_order.specs.contracts.is_falling
use Rattle.kernel_order.specs.contracts.is_rising

module _ {M : Type 1} {𝓤 : Ura M} (𝓛 : Logic 𝓤) (mem : Memory → SProp 𝓤) (run : Routine → Fun 𝓤) where
  pub is_ended_single : OneAnswer 𝓤 is_ended.ended (is_ended.clauses 𝓛 mem run)
  is_ended_single κs a g r s d e = one 𝓤 _ _ _

  pub is_free_single : OneAnswer 𝓤 is_free.ended (is_free.clauses 𝓛 mem run)
  is_free_single κs a g r s d e = one 𝓤 _ _ _

  pub is_falling_single : OneAnswer 𝓤 is_falling.ended (is_falling.clauses 𝓛 mem run)
  is_falling_single κs a g r s d e = one 𝓤 _ _ _

  pub is_rising_single : OneAnswer 𝓤 is_rising.ended (is_rising.clauses 𝓛 mem run)
  is_rising_single κs a g r s d e = one 𝓤 _ _ _
