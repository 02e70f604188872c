-- No second answer of `put_report`: of any buffer and judgement, only one length meets the contract as the check states it, and only one contents of the
-- buffer is left behind. Rules out: a contract that leaves a printed byte open. Leaves: which text it is (specs/Report). (The law: crate one_answer,
-- proofs/Law.) Assumes nothing.
use Prim.Native.Nat.{ℕ}
use mathlib.Core.List.{List}
use seplogic.Ra.Ura.{Ura}
use base.Logic.{SProp}
use prog.Memory.{Memory}
use prog.Routine.{Routine}
use types.Logic.{Logic}
use contract.Monad.{Fun}
use Rattle.one_answer.proofs.Law.{OneEnd, both, each_of_two}
use Rattle.report.specs.contracts.put_report as put-report

module _ {M : Type 1} {𝓤 : Ura M} (𝓛 : Logic 𝓤) (mem : Memory → SProp 𝓤) (run : Routine → Fun 𝓤) where
  pub put_report_single : OneEnd 𝓤 put-report.ended (put-report.clauses 𝓛 mem run) (ℕ × List ℕ) (λ κs r e. (r, e.0.now))
  put_report_single κs a g r s d e = both 𝓤 _ _ _ each_of_two
