-- No second answer of placing: of any arguments only one answer meets each contract as the check states it, and of the line that is lent only one contents
-- is left behind (the law: crate one_answer, proofs/Law). Assumes nothing.
use Prim.Native.Nat.{ℕ}
use mathlib.Core.List.{List}
use seplogic.Ra.Ura.{Ura}
use base.Logic.{SProp}
use prog.Memory.{Memory}
use prog.Routine.{Routine}
use types.Logic.{Logic}
use contract.Monad.{Fun}
use Rattle.one_answer.proofs.Law.{OneAnswer, OneEnd, one}
use Rattle.kernel_place.specs.contracts.front_time
use Rattle.kernel_place.specs.contracts.put_at
use Rattle.kernel_place.specs.contracts.put_time

module _ {M : Type 1} {𝓤 : Ura M} (𝓛 : Logic 𝓤) (mem : Memory → SProp 𝓤) (run : Routine → Fun 𝓤) where
  pub front_time_single : OneAnswer 𝓤 front_time.ended (front_time.clauses 𝓛 mem run)
  front_time_single κs a g r s d e = one 𝓤 _ _ _

  -- the line that it was lent
  pub put_at_single : OneEnd 𝓤 put_at.ended (put_at.clauses 𝓛 mem run) (List ℕ) (λ κs r e. e.0.now)
  put_at_single κs a g r s d e = one 𝓤 _ _ _

  pub put_time_single : OneEnd 𝓤 put_time.ended (put_time.clauses 𝓛 mem run) (List ℕ) (λ κs r e. e.0.now)
  put_time_single κs a g r s d e = one 𝓤 _ _ _
