-- No second answer of the record's public functions: of any fields, bytes and places, only one answer meets the contract as the check states it. Rules out: a
-- contract that leaves a field, a byte or a code open. Leaves: which answer it is (specs/). (The law: crate one_answer, proofs/Law.) Assumes nothing.
use seplogic.Ra.Ura.{Ura}
use base.Logic.{SProp}
use prog.Memory.{Memory}
use prog.Routine.{Routine}
use types.Logic.{Logic}
use contract.Monad.{Fun}
use Rattle.one_answer.proofs.Law.{OneAnswer, one}
use Rattle.record.specs.contracts.header
use Rattle.record.specs.contracts.fault
use Rattle.record.specs.contracts.in_command
use Rattle.record.specs.contracts.header_fields
use Rattle.record.specs.contracts.is_seed

module _ {M : Type 1} {𝓤 : Ura M} (𝓛 : Logic 𝓤) (mem : Memory → SProp 𝓤) (run : Routine → Fun 𝓤) where
  pub header_single : OneAnswer 𝓤 header.ended (header.clauses 𝓛 mem run)
  header_single κs a g r s d e = one 𝓤 _ _ _

  pub fault_single : OneAnswer 𝓤 fault.ended (fault.clauses 𝓛 mem run)
  fault_single κs a g r s d e = one 𝓤 _ _ _

  pub in_command_single : OneAnswer 𝓤 in_command.ended (in_command.clauses 𝓛 mem run)
  in_command_single κs a g r s d e = one 𝓤 _ _ _

  pub header_fields_single : OneAnswer 𝓤 header_fields.ended (header_fields.clauses 𝓛 mem run)
  header_fields_single κs a g r s d e = one 𝓤 _ _ _

  pub is_seed_single : OneAnswer 𝓤 is_seed.ended (is_seed.clauses 𝓛 mem run)
  is_seed_single κs a g r s d e = one 𝓤 _ _ _
