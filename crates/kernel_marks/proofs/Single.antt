-- No second answer of the marks: of any lines and marks, only one answer meets each contract (the law and what it says: crate one_answer,
-- proofs/Law). Assumes nothing.
use seplogic.Ra.Ura.{Ura}
use base.Logic.{SProp}
use prog.Memory.{Memory}
use prog.Routine.{Routine}
use types.Logic.{Logic}
use contract.Monad.{Fun}
use Rattle.one_answer.proofs.Law.{OneAnswer, one}
use Rattle.kernel_marks.specs.contracts.mark_line
use Rattle.kernel_marks.specs.contracts.mark_waiting

module _ {M : Type 1} {𝓤 : Ura M} (𝓛 : Logic 𝓤) (mem : Memory → SProp 𝓤) (run : Routine → Fun 𝓤) where
  pub mark_line_single : OneAnswer 𝓤 mark_line.ended (mark_line.clauses 𝓛 mem run)
  mark_line_single κs a g r s d e = one 𝓤 _ _ _

  pub mark_waiting_single : OneAnswer 𝓤 mark_waiting.ended (mark_waiting.clauses 𝓛 mem run)
  mark_waiting_single κs a g r s d e = one 𝓤 _ _ _
