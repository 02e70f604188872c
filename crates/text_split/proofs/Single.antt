-- No second answer of text_split's public functions: of any arguments, only one answer meets the contract as the check states it, and of the
-- buffer that is lent only one contents is left behind. Rules out: a contract that leaves what is read, what is held or a printed byte open. Leaves: which
-- answer it is (specs/). (The law: crate one_answer, proofs/Law.) Assumes nothing.
use seplogic.Ra.Ura.{Ura}
use base.Logic.{SProp}
use prog.Memory.{Memory}
use prog.Routine.{Routine}
use types.Logic.{Logic}
use contract.Monad.{Fun}
use Rattle.one_answer.proofs.Law.{OneAnswer, one}
use Rattle.text_split.specs.contracts.held_none
use Rattle.text_split.specs.contracts.hold
use Rattle.text_split.specs.contracts.line_end
use Rattle.text_split.specs.contracts.next_line
use Rattle.text_split.specs.contracts.held_command
use Rattle.text_split.specs.contracts.held_first_line
use Rattle.text_split.specs.contracts.next_command

module _ {M : Type 1} {𝓤 : Ura M} (𝓛 : Logic 𝓤) (mem : Memory → SProp 𝓤) (run : Routine → Fun 𝓤) where
  pub held_none_single : OneAnswer 𝓤 held_none.ended (held_none.clauses 𝓛 mem run)
  held_none_single κs a g r s d e = one 𝓤 _ _ _

  pub hold_single : OneAnswer 𝓤 hold.ended (hold.clauses 𝓛 mem run)
  hold_single κs a g r s d e = one 𝓤 _ _ _

  pub line_end_single : OneAnswer 𝓤 line_end.ended (line_end.clauses 𝓛 mem run)
  line_end_single κs a g r s d e = one 𝓤 _ _ _

  pub next_line_single : OneAnswer 𝓤 next_line.ended (next_line.clauses 𝓛 mem run)
  next_line_single κs a g r s d e = one 𝓤 _ _ _

  pub held_command_single : OneAnswer 𝓤 held_command.ended (held_command.clauses 𝓛 mem run)
  held_command_single κs a g r s d e = one 𝓤 _ _ _

  pub held_first_line_single : OneAnswer 𝓤 held_first_line.ended (held_first_line.clauses 𝓛 mem run)
  held_first_line_single κs a g r s d e = one 𝓤 _ _ _

  pub next_command_single : OneAnswer 𝓤 next_command.ended (next_command.clauses 𝓛 mem run)
  next_command_single κs a g r s d e = one 𝓤 _ _ _
