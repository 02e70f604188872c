-- No second answer of session's public functions: of any arguments, only one answer meets the contract as the check states it, and of the buffer and the
-- tables that are lent only one contents is left behind. Rules out: a contract that leaves a printed byte, or the state behind it, open. Leaves: which answer
-- it is (specs/). (The law: crate one_answer, proofs/Law.) Assumes nothing.
use seplogic.Ra.Ura.{Ura}
use base.Logic.{SProp}
use prog.Memory.{Memory}
use prog.Routine.{Routine}
use types.Logic.{Logic}
use contract.Monad.{Fun}
use Rattle.one_answer.proofs.Law.{OneAnswer, OneEnd, one, both, each_of_two}
use Rattle.kernel.specs.declared.Kernel.{Kernel}
use Rattle.kernel.specs.Step.{tables}
use Rattle.text.specs.declared.Row.{Row}
use Rattle.session.specs.contracts.following
use Rattle.session.specs.contracts.row_of
use Rattle.session.specs.contracts.carry_out

module _ {M : Type 1} {𝓤 : Ura M} (𝓛 : Logic 𝓤) (mem : Memory → SProp 𝓤) (run : Routine → Fun 𝓤) where
  pub following_single : OneAnswer 𝓤 following.ended (following.clauses 𝓛 mem run)
  following_single κs a g r s d e = one 𝓤 _ _ _

  pub row_of_single : OneAnswer 𝓤 row_of.ended (row_of.clauses 𝓛 mem run)
  row_of_single κs a g r s d e = one 𝓤 _ _ _

  pub carry_out_single : OneEnd 𝓤 carry_out.ended (carry_out.clauses 𝓛 mem run) (Kernel × Row)
      (λ κs r e. (
        tables e.0.now e.1.0.now e.1.1.0.now e.1.1.1.0.now e.1.1.1.1.0.now e.1.1.1.1.1.0.now
            e.1.1.1.1.1.1.0.now e.1.1.1.1.1.1.1.0.now e.1.1.1.1.1.1.1.1.0.now e.1.1.1.1.1.1.1.1.1.0.now,
        r,
      ))
  carry_out_single κs a g r s d e = both 𝓤 _ _ _ each_of_two
