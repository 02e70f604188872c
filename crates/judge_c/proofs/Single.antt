-- No second answer of what C calls: of any tape and any numbers lent, only one answer meets the contract as the check states it, and only one contents of the
-- numbers afterwards. Rules out: a contract that leaves the answer or one of the numbers open, where they are told as where they stay. Leaves: which answer
-- it is (judge_call/specs/Call). (The law: crate one_answer, proofs/Law.) Assumes nothing.
use Prim.Native.Nat.{ℕ}
use mathlib.Core.List.{List}
use seplogic.Ra.Ura.{Ura}
use base.Logic.{SProp}
use prog.Memory.{Memory}
use prog.Routine.{Routine}
use types.Logic.{Logic}
use contract.Monad.{Fun}
use Rattle.one_answer.proofs.Law.{OneEnd, both, each_of_two}
use Rattle.judge_c.specs.contracts.rvn_judge

module _ {M : Type 1} {𝓤 : Ura M} (𝓛 : Logic 𝓤) (mem : Memory → SProp 𝓤) (run : Routine → Fun 𝓤) where
  -- the answer and the numbers
  pub rvn_judge_single : OneEnd 𝓤 rvn_judge.ended (rvn_judge.clauses 𝓛 mem run) (ℕ × List ℕ) (λ κs r e. (r, e.1.0.now))
  rvn_judge_single κs a g r s d e = both 𝓤 _ _ _ each_of_two
