-- No second answer of a Wake: of any tables, only one contents of those that are lent to be changed meets the contract as the check states it, and only
-- one released task (the law: crate one_answer, proofs/Law). Rules out: a Wake that may leave a table as it was. Assumes nothing.
use Prim.Native.Nat.{ℕ}
use mathlib.Core.List.{List}
use seplogic.Ra.Ura.{Ura}
use base.Logic.{SProp}
use prog.Memory.{Memory}
use prog.Routine.{Routine}
use types.Logic.{Logic}
use contract.Monad.{Fun}
use Rattle.one_answer.proofs.Law.{OneEnd, both, each_of_four}
use Rattle.kernel_wake.specs.contracts.wake

module _ {M : Type 1} {𝓤 : Ura M} (𝓛 : Logic 𝓤) (mem : Memory → SProp 𝓤) (run : Routine → Fun 𝓤) where
  -- the released task, and each table that it changes
  pub wake_single : OneEnd 𝓤 wake.ended (wake.clauses 𝓛 mem run) (ℕ × List ℕ × List ℕ × List ℕ)
      (λ κs r e. (r, e.1.0.now, e.1.1.0.now, e.1.1.1.1.0.now))
  wake_single κs a g r s d e = both 𝓤 _ _ _ each_of_four
