-- No second answer of a record's bytes: of any fields and bytes, only one answer meets the contract as the check states it. Rules out: a
-- contract that leaves a field, a byte or a code open. Leaves: which answer it is (record/specs/Form). (The law: crate one_answer, proofs/Law.)
-- Assumes nothing.
use seplogic.Ra.Ura.{Ura}
use base.Logic.{SProp}
use prog.Memory.{Memory}
use prog.Routine.{Routine}
use types.Logic.{Logic}
use contract.Monad.{Fun}
use Rattle.one_answer.proofs.Law.{OneAnswer, one}
use Rattle.record_bytes.specs.contracts.number_of
use Rattle.record_bytes.specs.contracts.number_bytes
use Rattle.record_bytes.specs.contracts.record_of
use Rattle.record_bytes.specs.contracts.bytes_of
use Rattle.record_bytes.specs.contracts.is_marked
use Rattle.record_bytes.specs.contracts.is_header
use Rattle.record_bytes.specs.contracts.is_command

module _ {M : Type 1} {𝓤 : Ura M} (𝓛 : Logic 𝓤) (mem : Memory → SProp 𝓤) (run : Routine → Fun 𝓤) where
  pub number_of_single : OneAnswer 𝓤 number_of.ended (number_of.clauses 𝓛 mem run)
  number_of_single κs a g r s d e = one 𝓤 _ _ _

  pub number_bytes_single : OneAnswer 𝓤 number_bytes.ended (number_bytes.clauses 𝓛 mem run)
  number_bytes_single κs a g r s d e = one 𝓤 _ _ _

  pub record_of_single : OneAnswer 𝓤 record_of.ended (record_of.clauses 𝓛 mem run)
  record_of_single κs a g r s d e = one 𝓤 _ _ _

  pub bytes_of_single : OneAnswer 𝓤 bytes_of.ended (bytes_of.clauses 𝓛 mem run)
  bytes_of_single κs a g r s d e = one 𝓤 _ _ _

  pub is_marked_single : OneAnswer 𝓤 is_marked.ended (is_marked.clauses 𝓛 mem run)
  is_marked_single κs a g r s d e = one 𝓤 _ _ _

  pub is_header_single : OneAnswer 𝓤 is_header.ended (is_header.clauses 𝓛 mem run)
  is_header_single κs a g r s d e = one 𝓤 _ _ _

  pub is_command_single : OneAnswer 𝓤 is_command.ended (is_command.clauses 𝓛 mem run)
  is_command_single κs a g r s d e = one 𝓤 _ _ _
