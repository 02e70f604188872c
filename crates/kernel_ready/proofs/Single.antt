-- No second answer of the ready line's functions: of any arguments, only one answer meets each contract as the check states it, and of the line that is lent to
-- be changed only one contents is left behind (the law and what it says: crate one_answer, proofs/Law). Assumes nothing.
use Prim.Native.Nat.{ℕ}
use mathlib.Core.List.{List}
use seplogic.Ra.Ura.{Ura}
use base.Logic.{SProp}
use prog.Memory.{Memory}
use prog.Routine.{Routine}
use types.Logic.{Logic}
use contract.Monad.{Fun}
use Rattle.one_answer.proofs.Law.{OneAnswer, OneEnd, one}
use Rattle.kernel_ready.specs.contracts.runner
use Rattle.kernel_ready.specs.contracts.running
use Rattle.kernel_ready.specs.contracts.take_front
use Rattle.kernel_ready.specs.contracts.put_tail
use Rattle.kernel_ready.specs.contracts.put_head
use Rattle.kernel_ready.specs.contracts.to_tail

module _ {M : Type 1} {𝓤 : Ura M} (𝓛 : Logic 𝓤) (mem : Memory → SProp 𝓤) (run : Routine → Fun 𝓤) where
  pub runner_single : OneAnswer 𝓤 runner.ended (runner.clauses 𝓛 mem run)
  runner_single κs a g r s d e = one 𝓤 _ _ _

  pub running_single : OneAnswer 𝓤 running.ended (running.clauses 𝓛 mem run)
  running_single κs a g r s d e = one 𝓤 _ _ _

  -- the line that it was lent
  pub take_front_single : OneEnd 𝓤 take_front.ended (take_front.clauses 𝓛 mem run) (List ℕ) (λ κs r e. e.0.now)
  take_front_single κs a g r s d e = one 𝓤 _ _ _

  pub put_tail_single : OneEnd 𝓤 put_tail.ended (put_tail.clauses 𝓛 mem run) (List ℕ) (λ κs r e. e.0.now)
  put_tail_single κs a g r s d e = one 𝓤 _ _ _

  pub put_head_single : OneEnd 𝓤 put_head.ended (put_head.clauses 𝓛 mem run) (List ℕ) (λ κs r e. e.0.now)
  put_head_single κs a g r s d e = one 𝓤 _ _ _

  pub to_tail_single : OneEnd 𝓤 to_tail.ended (to_tail.clauses 𝓛 mem run) (List ℕ) (λ κs r e. e.0.now)
  to_tail_single κs a g r s d e = one 𝓤 _ _ _
