-- No second answer of decimal's public functions: of any word, number and buffer, only one answer meets the contract as the check states it, and of the
-- buffer that is lent only one contents is left behind. Rules out: a contract that leaves a number or a printed byte open. Leaves: which answer it is
-- (specs/). (The law: crate one_answer, proofs/Law.) Assumes nothing.
use Prim.Native.Nat.{ℕ}
use mathlib.Core.List.{List}
use seplogic.Ra.Ura.{Ura}
use base.Logic.{SProp}
use prog.Memory.{Memory}
use prog.Routine.{Routine}
use types.Logic.{Logic}
use contract.Monad.{Fun}
use Rattle.one_answer.proofs.Law.{OneEnd, both, each_of_two}
use Rattle.decimal_print.specs.contracts.put_decimal

module _ {M : Type 1} {𝓤 : Ura M} (𝓛 : Logic 𝓤) (mem : Memory → SProp 𝓤) (run : Routine → Fun 𝓤) where
  -- the place behind it, and the buffer
  pub put_decimal_single : OneEnd 𝓤 put_decimal.ended (put_decimal.clauses 𝓛 mem run) (ℕ × List ℕ) (λ κs r e. (r, e.0.now))
  put_decimal_single κs a g r s d e = both 𝓤 _ _ _ each_of_two
