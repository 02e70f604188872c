-- No second answer of `put_list` and `put_last`: of any buffer and what is to be printed, only one length meets the contract as the check states it, and only
-- one contents of the buffer is left behind. Rules out: a contract that leaves a printed byte open. Leaves: which text it is (crate salvage_text). (The law:
-- crate one_answer, proofs/Law.) Assumes nothing.
use Prim.Native.Nat.{ℕ}
use mathlib.Core.List.{List}
use seplogic.Ra.Ura.{Ura}
use base.Logic.{SProp}
use prog.Memory.{Memory}
use prog.Routine.{Routine}
use types.Logic.{Logic}
use contract.Monad.{Fun}
use Rattle.one_answer.proofs.Law.{OneEnd, both, each_of_two}
use Rattle.salvage_print.specs.contracts.put_list as put-list
use Rattle.salvage_print.specs.contracts.put_last as put_last

module _ {M : Type 1} {𝓤 : Ura M} (𝓛 : Logic 𝓤) (mem : Memory → SProp 𝓤) (run : Routine → Fun 𝓤) where
  pub put_list_single : OneEnd 𝓤 put-list.ended (put-list.clauses 𝓛 mem run) (ℕ × List ℕ) (λ κs r e. (r, e.0.now))
  put_list_single κs a g r s d e = both 𝓤 _ _ _ each_of_two

  pub put_last_single : OneEnd 𝓤 put_last.ended (put_last.clauses 𝓛 mem run) (ℕ × List ℕ) (λ κs r e. (r, e.0.now))
  put_last_single κs a g r s d e = both 𝓤 _ _ _ each_of_two
