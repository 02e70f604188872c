-- No second answer of taking the front off: of any line only one contents is left behind (the law: crate one_answer, proofs/Law). Assumes nothing.
use Prim.Native.Nat.{ℕ}
use mathlib.Core.List.{List}
use seplogic.Ra.Ura.{Ura}
use base.Logic.{SProp}
use prog.Memory.{Memory}
use prog.Routine.{Routine}
use types.Logic.{Logic}
use contract.Monad.{Fun}
use Rattle.one_answer.proofs.Law.{OneEnd, one}
use Rattle.kernel_front.specs.contracts.drop_front

module _ {M : Type 1} {𝓤 : Ura M} (𝓛 : Logic 𝓤) (mem : Memory → SProp 𝓤) (run : Routine → Fun 𝓤) where
  pub drop_front_single : OneEnd 𝓤 drop_front.ended (drop_front.clauses 𝓛 mem run) (List ℕ) (λ κs r e. e.0.now)
  drop_front_single κs a g r s d e = one 𝓤 _ _ _
