-- No second answer of the public functions: of any answer, record and two that are kept, only one answer meets the contract as the check states it. Rules out:
-- a contract that leaves a part of what is kept open. Leaves: which answer it is (specs/Kept). (The law: crate one_answer, proofs/Law.) Assumes nothing.
use seplogic.Ra.Ura.{Ura}
use base.Logic.{SProp}
use prog.Memory.{Memory}
use prog.Routine.{Routine}
use types.Logic.{Logic}
use contract.Monad.{Fun}
use Rattle.one_answer.proofs.Law.{OneAnswer, one}
use Rattle.record_kept.specs.contracts.KeptFromAnswer as of_answer
use Rattle.record_kept.specs.contracts.KeptFromRecord as of_record
use Rattle.record_kept.specs.contracts.Kept.same
use Rattle.record_kept.specs.contracts.Kept.pack

module _ {M : Type 1} {𝓤 : Ura M} (𝓛 : Logic 𝓤) (mem : Memory → SProp 𝓤) (run : Routine → Fun 𝓤) where
  pub kept_of_single : OneAnswer 𝓤 of_answer.from.ended (of_answer.from.clauses 𝓛 mem run)
  kept_of_single κs a g r s d e = one 𝓤 _ _ _

  pub kept_on_single : OneAnswer 𝓤 of_record.from.ended (of_record.from.clauses 𝓛 mem run)
  kept_on_single κs a g r s d e = one 𝓤 _ _ _

  pub same_single : OneAnswer 𝓤 same.ended (same.clauses 𝓛 mem run)
  same_single κs a g r s d e = one 𝓤 _ _ _

  pub pack_single : OneAnswer 𝓤 pack.ended (pack.clauses 𝓛 mem run)
  pack_single κs a g r s d e = one 𝓤 _ _ _
