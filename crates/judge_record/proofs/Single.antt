-- No second answer of the public functions: of any place that a judge stands at and any record, only one answer meets the contract as the check states it.
-- Rules out: a contract that leaves a part of a verdict open. Leaves: which answer it is (specs/Behind). (The law: crate one_answer, proofs/Law.)
-- Assumes nothing.
use seplogic.Ra.Ura.{Ura}
use base.Logic.{SProp}
use prog.Memory.{Memory}
use prog.Routine.{Routine}
use types.Logic.{Logic}
use contract.Monad.{Fun}
use Rattle.one_answer.proofs.Law.{OneAnswer, one}
use Rattle.judge_record.specs.contracts.command_of
use Rattle.judge_record.specs.contracts.place_of
use Rattle.judge_record.specs.contracts.refused
use Rattle.judge_record.specs.contracts.headed
use Rattle.judge_record.specs.contracts.compared
use Rattle.judge_record.specs.contracts.at_end

module _ {M : Type 1} {𝓤 : Ura M} (𝓛 : Logic 𝓤) (mem : Memory → SProp 𝓤) (run : Routine → Fun 𝓤) where
  pub command_of_single : OneAnswer 𝓤 command_of.ended (command_of.clauses 𝓛 mem run)
  command_of_single κs a g r s d e = one 𝓤 _ _ _

  pub place_of_single : OneAnswer 𝓤 place_of.ended (place_of.clauses 𝓛 mem run)
  place_of_single κs a g r s d e = one 𝓤 _ _ _

  pub refused_single : OneAnswer 𝓤 refused.ended (refused.clauses 𝓛 mem run)
  refused_single κs a g r s d e = one 𝓤 _ _ _

  pub headed_single : OneAnswer 𝓤 headed.ended (headed.clauses 𝓛 mem run)
  headed_single κs a g r s d e = one 𝓤 _ _ _

  pub compared_single : OneAnswer 𝓤 compared.ended (compared.clauses 𝓛 mem run)
  compared_single κs a g r s d e = one 𝓤 _ _ _

  pub at_end_single : OneAnswer 𝓤 at_end.ended (at_end.clauses 𝓛 mem run)
  at_end_single κs a g r s d e = one 𝓤 _ _ _
