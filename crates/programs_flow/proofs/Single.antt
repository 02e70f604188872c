-- No second answer of those public functions whose answer hangs on nothing that the system does: of any Went, only one answer meets the contract as the check
-- states it. Rules out: a contract that leaves the status, a count or how the work stands open. Leaves: which answer it is (specs/); and what a read brings
-- and a write takes, which no contract can say. (Five of them take what stands for standard error: of any type `E` that prints.) (The law: crate one_answer, proofs/Law.)
-- And of what a `Program` lays into a buffer: how many bytes, and what the buffer then holds. Assumes nothing.
use seplogic.Ra.Ura.{Ura}
use base.Logic.{SProp}
use prog.Memory.{Memory}
use prog.Routine.{Routine}
use types.Logic.{Logic}
use contract.Monad.{Fun}
use denote.RattleType.{RattleType}
use mir.Syntax.{Dict}
use Rattle.std.specs.declared.io.Print.{Ghosts}
use Prim.Native.Nat.{ℕ}
use mathlib.Core.Path.{◌≡◌, sym, ◌∙◌}
use mathlib.Core.List.{List}
use Rattle.programs_flow.specs.Loops.{Laid}
use Rattle.one_answer.proofs.Law.{OneAnswer, one}
use Rattle.programs_flow.specs.contracts.Went.going
use Rattle.programs_flow.specs.contracts.Went.goes_on
use Rattle.programs_flow.specs.contracts.Went.has_failed
use Rattle.programs_flow.specs.contracts.Went.brought
use Rattle.programs_flow.specs.contracts.Went.status
use Rattle.programs_flow.specs.contracts.told
use Rattle.programs_flow.specs.contracts.refused
use Rattle.programs_flow.specs.contracts.checked
use Rattle.programs_flow.specs.contracts.Went.has_ended
use Rattle.programs_flow.specs.contracts.not_read
use Rattle.programs_flow.specs.contracts.not_written

pub laid_single : (before text out left : List ℕ) (n m : ℕ) → Laid n before out text → Laid m before left text → (n ≡ m) × (out ≡ left)
laid_single before text out left n m p q = (p.0 ∙ sym q.0, p.1 ∙ sym q.1)

module _ {M : Type 1} {𝓤 : Ura M} (𝓛 : Logic 𝓤) (mem : Memory → SProp 𝓤) (run : Routine → Fun 𝓤) where
  pub going_single : OneAnswer 𝓤 going.ended (going.clauses 𝓛 mem run)
  going_single κs a g r s d e = one 𝓤 _ _ _

  pub goes_on_single : OneAnswer 𝓤 goes_on.ended (goes_on.clauses 𝓛 mem run)
  goes_on_single κs a g r s d e = one 𝓤 _ _ _

  pub has_failed_single : OneAnswer 𝓤 has_failed.ended (has_failed.clauses 𝓛 mem run)
  has_failed_single κs a g r s d e = one 𝓤 _ _ _

  pub has_ended_single : OneAnswer 𝓤 has_ended.ended (has_ended.clauses 𝓛 mem run)
  has_ended_single κs a g r s d e = one 𝓤 _ _ _

  pub brought_single : OneAnswer 𝓤 brought.ended (brought.clauses 𝓛 mem run)
  brought_single κs a g r s d e = one 𝓤 _ _ _

  pub status_single : OneAnswer 𝓤 status.ended (status.clauses 𝓛 mem run)
  status_single κs a g r s d e = one 𝓤 _ _ _

  pub told_single : (E : RattleType) (p : Ghosts E.Denot) (d : Dict)
      → OneAnswer 𝓤 (told.ended E p d) (told.clauses E p d 𝓛 mem run)
  told_single E p h κs a g r s d e = one 𝓤 _ _ _

  pub refused_single : (E : RattleType) (p : Ghosts E.Denot) (d : Dict)
      → OneAnswer 𝓤 (refused.ended E p d) (refused.clauses E p d 𝓛 mem run)
  refused_single E p h κs a g r s d e = one 𝓤 _ _ _

  pub not_read_single : (E : RattleType) (p : Ghosts E.Denot) (d : Dict)
      → OneAnswer 𝓤 (not_read.ended E p d) (not_read.clauses E p d 𝓛 mem run)
  not_read_single E p h κs a g r s d e = one 𝓤 _ _ _

  pub not_written_single : (E : RattleType) (p : Ghosts E.Denot) (d : Dict)
      → OneAnswer 𝓤 (not_written.ended E p d) (not_written.clauses E p d 𝓛 mem run)
  not_written_single E p h κs a g r s d e = one 𝓤 _ _ _

  pub checked_single : (E : RattleType) (p : Ghosts E.Denot) (d : Dict)
      → OneAnswer 𝓤 (checked.ended E p d) (checked.clauses E p d 𝓛 mem run)
  checked_single E p h κs a g r s d e = one 𝓤 _ _ _
