-- No second answer of the tests of the objects: of any tables only one answer meets each contract as the check states it (the law: crate one_answer,
-- proofs/Law). Assumes nothing.
use seplogic.Ra.Ura.{Ura}
use base.Logic.{SProp}
use prog.Memory.{Memory}
use prog.Routine.{Routine}
use types.Logic.{Logic}
use contract.Monad.{Fun}
use Rattle.one_answer.proofs.Law.{OneAnswer, one}
use Rattle.kernel_objects.specs.contracts.admits
use Rattle.kernel_objects.specs.contracts.objects_fit

module _ {M : Type 1} {𝓤 : Ura M} (𝓛 : Logic 𝓤) (mem : Memory → SProp 𝓤) (run : Routine → Fun 𝓤) where
  pub admits_single : OneAnswer 𝓤 admits.ended (admits.clauses 𝓛 mem run)
  admits_single κs a g r s d e = one 𝓤 _ _ _

  pub objects_fit_single : OneAnswer 𝓤 objects_fit.ended (objects_fit.clauses 𝓛 mem run)
  objects_fit_single κs a g r s d e = one 𝓤 _ _ _
