-- No second answer of the test of a saved state: of any tables, only one answer meets its contract (the law and what it says: crate one_answer, proofs/Law).
-- Assumes nothing.
use seplogic.Ra.Ura.{Ura}
use base.Logic.{SProp}
use prog.Memory.{Memory}
use prog.Routine.{Routine}
use types.Logic.{Logic}
use contract.Monad.{Fun}
use Rattle.one_answer.proofs.Law.{OneAnswer, one}
use Rattle.kernel_sound.specs.contracts.tested

module _ {M : Type 1} {𝓤 : Ura M} (𝓛 : Logic 𝓤) (mem : Memory → SProp 𝓤) (run : Routine → Fun 𝓤) where
  pub tested_single : OneAnswer 𝓤 tested.ended (tested.clauses 𝓛 mem run)
  tested_single κs a g r s d e = one 𝓤 _ _ _
