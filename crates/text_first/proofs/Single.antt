-- No second answer of text_first's public functions: of any arguments, only one answer meets the contract as the check states it, and of the
-- buffer that is lent only one contents is left behind. Rules out: a contract that leaves what is read, what is held or a printed byte open. Leaves: which
-- answer it is (specs/). (The law: crate one_answer, proofs/Law.) Assumes nothing.
use seplogic.Ra.Ura.{Ura}
use base.Logic.{SProp}
use prog.Memory.{Memory}
use prog.Routine.{Routine}
use types.Logic.{Logic}
use contract.Monad.{Fun}
use Rattle.one_answer.proofs.Law.{OneAnswer, one}
use Rattle.text_first.specs.contracts.seed_text
use Rattle.text_first.specs.contracts.first_line

module _ {M : Type 1} {𝓤 : Ura M} (𝓛 : Logic 𝓤) (mem : Memory → SProp 𝓤) (run : Routine → Fun 𝓤) where
  pub seed_text_single : OneAnswer 𝓤 seed_text.ended (seed_text.clauses 𝓛 mem run)
  seed_text_single κs a g r s d e = one 𝓤 _ _ _

  pub first_line_single : OneAnswer 𝓤 first_line.ended (first_line.clauses 𝓛 mem run)
  first_line_single κs a g r s d e = one 𝓤 _ _ _
