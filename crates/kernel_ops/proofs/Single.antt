-- No second answer of the ops of set-up and of objects: of any tables, only one contents of those that are lent to be changed meets each contract as the
-- check states it, and only one released task (the law and what it says: crate one_answer, proofs/Law). Rules out: an op that may leave a table as it was.
-- Assumes nothing.
use Prim.Native.Nat.{ℕ}
use mathlib.Core.Bool.{Bool}
use mathlib.Core.List.{List}
use seplogic.Ra.Ura.{Ura}
use base.Logic.{SProp}
use prog.Memory.{Memory}
use prog.Routine.{Routine}
use types.Logic.{Logic}
use contract.Monad.{Fun}
use Rattle.one_answer.proofs.Law.{OneEnd, both, each_of_two, each_of_three, each_of_five}
use Rattle.kernel_ops.specs.contracts.create
use Rattle.kernel_ops.specs.contracts.declare
use Rattle.kernel_ops.specs.contracts.begin
use Rattle.kernel_ops.specs.contracts.hold
use Rattle.kernel_ops.specs.contracts.enter

module _ {M : Type 1} {𝓤 : Ura M} (𝓛 : Logic 𝓤) (mem : Memory → SProp 𝓤) (run : Routine → Fun 𝓤) where
  -- the released task, and each table that it changes
  pub create_single : OneEnd 𝓤 create.ended (create.clauses 𝓛 mem run) (ℕ × List ℕ × List ℕ) (λ κs r e. (r, e.0.now, e.1.0.now))
  create_single κs a g r s d e = both 𝓤 _ _ _ each_of_three

  pub declare_single : OneEnd 𝓤 declare.ended (declare.clauses 𝓛 mem run) (ℕ × List ℕ) (λ κs r e. (r, e.0.now))
  declare_single κs a g r s d e = both 𝓤 _ _ _ each_of_two

  pub begin_single : OneEnd 𝓤 begin.ended (begin.clauses 𝓛 mem run) (ℕ × Bool) (λ κs r e. (r, e.0.now))
  begin_single κs a g r s d e = both 𝓤 _ _ _ each_of_two

  pub hold_single : OneEnd 𝓤 hold.ended (hold.clauses 𝓛 mem run) (ℕ × List ℕ × List ℕ) (λ κs r e. (r, e.1.0.now, e.1.1.0.now))
  hold_single κs a g r s d e = both 𝓤 _ _ _ each_of_three

  pub enter_single : OneEnd 𝓤 enter.ended (enter.clauses 𝓛 mem run) (ℕ × List ℕ × List ℕ × List ℕ × List ℕ)
      (λ κs r e. (r, e.0.now, e.1.0.now, e.1.1.0.now, e.1.1.1.0.now))
  enter_single κs a g r s d e = both 𝓤 _ _ _ each_of_five
