-- No second answer of text_word's public functions: of any arguments, only one answer meets the contract as the check states it, and of the
-- buffer that is lent only one contents is left behind. Rules out: a contract that leaves what is read, what is held or a printed byte open. Leaves: which
-- answer it is (specs/). (The law: crate one_answer, proofs/Law.) Assumes nothing.
use seplogic.Ra.Ura.{Ura}
use base.Logic.{SProp}
use prog.Memory.{Memory}
use prog.Routine.{Routine}
use types.Logic.{Logic}
use contract.Monad.{Fun}
use Rattle.one_answer.proofs.Law.{OneAnswer, one, both}
use Rattle.text_word.specs.contracts.find
use Rattle.text_word.specs.contracts.same_bytes
use Rattle.text_word.specs.contracts.next_decimal
use Rattle.text_word.proofs.Places.{same_operand}

module _ {M : Type 1} {𝓤 : Ura M} (𝓛 : Logic 𝓤) (mem : Memory → SProp 𝓤) (run : Routine → Fun 𝓤) where
  pub find_single : OneAnswer 𝓤 find.ended (find.clauses 𝓛 mem run)
  find_single κs a g r s d e = one 𝓤 _ _ _

  pub same_bytes_single : OneAnswer 𝓤 same_bytes.ended (same_bytes.clauses 𝓛 mem run)
  same_bytes_single κs a g r s d e = one 𝓤 _ _ _

  pub next_decimal_single : OneAnswer 𝓤 next_decimal.ended (next_decimal.clauses 𝓛 mem run)
  next_decimal_single κs a g r s d e = both 𝓤 _ _ _ same_operand
