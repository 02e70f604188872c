-- No second answer of text_command's public functions: of any arguments, only one answer meets the contract as the check states it, and of the
-- buffer that is lent only one contents is left behind. Rules out: a contract that leaves what is read, what is held or a printed byte open. Leaves: which
-- answer it is (specs/). (The law: crate one_answer, proofs/Law.) Assumes nothing.
use seplogic.Ra.Ura.{Ura}
use base.Logic.{SProp}
use prog.Memory.{Memory}
use prog.Routine.{Routine}
use types.Logic.{Logic}
use contract.Monad.{Fun}
use Rattle.one_answer.proofs.Law.{OneAnswer, one}
use Rattle.text_command.specs.contracts.takes_a
use Rattle.text_command.specs.contracts.takes_b
use Rattle.text_command.specs.contracts.takes_value
use Rattle.text_command.specs.contracts.writes_a
use Rattle.text_command.specs.contracts.no_command
use Rattle.text_command.specs.contracts.command

module _ {M : Type 1} {𝓤 : Ura M} (𝓛 : Logic 𝓤) (mem : Memory → SProp 𝓤) (run : Routine → Fun 𝓤) where
  pub takes_a_single : OneAnswer 𝓤 takes_a.ended (takes_a.clauses 𝓛 mem run)
  takes_a_single κs a g r s d e = one 𝓤 _ _ _

  pub takes_b_single : OneAnswer 𝓤 takes_b.ended (takes_b.clauses 𝓛 mem run)
  takes_b_single κs a g r s d e = one 𝓤 _ _ _

  pub takes_value_single : OneAnswer 𝓤 takes_value.ended (takes_value.clauses 𝓛 mem run)
  takes_value_single κs a g r s d e = one 𝓤 _ _ _

  pub writes_a_single : OneAnswer 𝓤 writes_a.ended (writes_a.clauses 𝓛 mem run)
  writes_a_single κs a g r s d e = one 𝓤 _ _ _

  pub no_command_single : OneAnswer 𝓤 no_command.ended (no_command.clauses 𝓛 mem run)
  no_command_single κs a g r s d e = one 𝓤 _ _ _

  pub command_single : OneAnswer 𝓤 command.ended (command.clauses 𝓛 mem run)
  command_single κs a g r s d e = one 𝓤 _ _ _
