-- No second answer of the tests of the tasks: of any tables only one answer meets each contract as the check states it (the law: crate one_answer,
-- proofs/Law). Assumes nothing.
use seplogic.Ra.Ura.{Ura}
use base.Logic.{SProp}
use prog.Memory.{Memory}
use prog.Routine.{Routine}
use types.Logic.{Logic}
use contract.Monad.{Fun}
use Rattle.one_answer.proofs.Law.{OneAnswer, one}
use Rattle.kernel_cells.specs.contracts.tasks_fit
use Rattle.kernel_cells.specs.contracts.times_fit

module _ {M : Type 1} {𝓤 : Ura M} (𝓛 : Logic 𝓤) (mem : Memory → SProp 𝓤) (run : Routine → Fun 𝓤) where
  pub tasks_fit_single : OneAnswer 𝓤 tasks_fit.ended (tasks_fit.clauses 𝓛 mem run)
  tasks_fit_single κs a g r s d e = one 𝓤 _ _ _

  pub times_fit_single : OneAnswer 𝓤 times_fit.ended (times_fit.clauses 𝓛 mem run)
  times_fit_single κs a g r s d e = one 𝓤 _ _ _
