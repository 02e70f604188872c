-- No second answer of the public functions of the tables and lines: of any arguments, only one answer meets each contract as the check states it, and of the
-- table or line that is lent to be changed only one contents is left behind (the law and what it says: crate one_answer, proofs/Law). Assumes nothing.
use Prim.Native.Nat.{ℕ}
use mathlib.Core.List.{List}
use seplogic.Ra.Ura.{Ura}
use base.Logic.{SProp}
use prog.Memory.{Memory}
use prog.Routine.{Routine}
use types.Logic.{Logic}
use contract.Monad.{Fun}
use denote.RattleType.{RattleType}
use mir.Syntax.{Dict}
use Rattle.std.specs.declared.clone.Clone.{Ghosts}
use Rattle.one_answer.proofs.Law.{OneAnswer, OneEnd, one}
use Rattle.kernel_line.specs.contracts.cell
use Rattle.kernel_line.specs.contracts.set_cell
use Rattle.kernel_line.specs.contracts.of_task
use Rattle.kernel_line.specs.contracts.time_of
use Rattle.kernel_line.specs.contracts.of_object
use Rattle.kernel_line.specs.contracts.level
use Rattle.kernel_line.specs.contracts.set_task
use Rattle.kernel_line.specs.contracts.set_time
use Rattle.kernel_line.specs.contracts.set_object
use Rattle.kernel_line.specs.contracts.lead_task
use Rattle.kernel_line.specs.contracts.holders
use Rattle.kernel_line.specs.contracts.one_more

module _ {M : Type 1} {𝓤 : Ura M} (𝓛 : Logic 𝓤) (mem : Memory → SProp 𝓤) (run : Routine → Fun 𝓤) where
  -- of any cells, and however many
  pub cell_single : (T N : RattleType) (h : Ghosts T.Denot) (l : Dict) → OneAnswer 𝓤 (cell.ended T N h l) (cell.clauses T N h l 𝓛 mem run)
  cell_single T N h l κs a g r s d e = one 𝓤 _ _ _

  pub of_task_single : OneAnswer 𝓤 of_task.ended (of_task.clauses 𝓛 mem run)
  of_task_single κs a g r s d e = one 𝓤 _ _ _

  pub time_of_single : OneAnswer 𝓤 time_of.ended (time_of.clauses 𝓛 mem run)
  time_of_single κs a g r s d e = one 𝓤 _ _ _

  pub of_object_single : OneAnswer 𝓤 of_object.ended (of_object.clauses 𝓛 mem run)
  of_object_single κs a g r s d e = one 𝓤 _ _ _

  pub level_single : OneAnswer 𝓤 level.ended (level.clauses 𝓛 mem run)
  level_single κs a g r s d e = one 𝓤 _ _ _

  -- the table that it was lent
  pub set_cell_single : (T N : RattleType) (h : Ghosts T.Denot) (l : Dict)
      → OneEnd 𝓤 (set_cell.ended T N h l) (set_cell.clauses T N h l 𝓛 mem run) (List T.Denot) (λ κs r e. e.0.now)
  set_cell_single T N h l κs a g r s d e = one 𝓤 _ _ _

  pub set_task_single : OneEnd 𝓤 set_task.ended (set_task.clauses 𝓛 mem run) (List ℕ) (λ κs r e. e.0.now)
  set_task_single κs a g r s d e = one 𝓤 _ _ _

  pub set_time_single : OneEnd 𝓤 set_time.ended (set_time.clauses 𝓛 mem run) (List ℕ) (λ κs r e. e.0.now)
  set_time_single κs a g r s d e = one 𝓤 _ _ _

  pub set_object_single : OneEnd 𝓤 set_object.ended (set_object.clauses 𝓛 mem run) (List ℕ) (λ κs r e. e.0.now)
  set_object_single κs a g r s d e = one 𝓤 _ _ _

  pub lead_task_single : OneAnswer 𝓤 lead_task.ended (lead_task.clauses 𝓛 mem run)
  lead_task_single κs a g r s d e = one 𝓤 _ _ _

  pub holders_single : OneAnswer 𝓤 holders.ended (holders.clauses 𝓛 mem run)
  holders_single κs a g r s d e = one 𝓤 _ _ _

  pub one_more_single : OneAnswer 𝓤 one_more.ended (one_more.clauses 𝓛 mem run)
  one_more_single κs a g r s d e = one 𝓤 _ _ _
