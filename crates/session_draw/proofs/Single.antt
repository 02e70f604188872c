-- No second answer of session_draw's public functions: of any arguments, only one answer meets the contract as the check states it, and of the buffer and the
-- tables that are lent only one contents is left behind. Rules out: a contract that leaves a printed byte, or the state behind it, open. Leaves: which answer
-- it is (specs/). (The law: crate one_answer, proofs/Law.) Assumes nothing.
use Prim.Native.Nat.{ℕ}
use mathlib.Core.List.{List}
use seplogic.Ra.Ura.{Ura}
use base.Logic.{SProp}
use prog.Memory.{Memory}
use prog.Routine.{Routine}
use types.Logic.{Logic}
use contract.Monad.{Fun}
use Rattle.one_answer.proofs.Law.{OneAnswer, OneEnd, one, both}
use Rattle.session.proofs.Ends.{same_end}
use Rattle.session_draw.specs.declared.Read.{Read}
use Rattle.session_draw.specs.declared.Printed.{Printed}
use Rattle.session_draw.specs.contracts.begin
use Rattle.session_draw.specs.contracts.header
use Rattle.session_draw.specs.contracts.feed
use Rattle.session_draw.specs.contracts.finish
use Rattle.session_draw.specs.contracts.draw_some

module _ {M : Type 1} {𝓤 : Ura M} (𝓛 : Logic 𝓤) (mem : Memory → SProp 𝓤) (run : Routine → Fun 𝓤) where
  pub begin_single : OneAnswer 𝓤 begin.ended (begin.clauses 𝓛 mem run)
  begin_single κs a g r s d e = one 𝓤 _ _ _

  pub header_single : OneEnd 𝓤 header.ended (header.clauses 𝓛 mem run) (ℕ × List ℕ) (λ κs r e. (r, e.0.now))
  header_single κs a g r s d e = both 𝓤 _ _ _ same_end

  pub feed_single : OneEnd 𝓤 feed.ended (feed.clauses 𝓛 mem run) (Read × List ℕ) (λ κs r e. (r, e.1.1.0.now))
  feed_single κs a g r s d e = both 𝓤 _ _ _ same_end

  pub finish_single : OneEnd 𝓤 finish.ended (finish.clauses 𝓛 mem run) (Printed × List ℕ) (λ κs r e. (r, e.1.0.now))
  finish_single κs a g r s d e = both 𝓤 _ _ _ same_end

  pub draw_some_single : OneEnd 𝓤 draw_some.ended (draw_some.clauses 𝓛 mem run) (Printed × List ℕ) (λ κs r e. (r, e.1.1.0.now))
  draw_some_single κs a g r s d e = both 𝓤 _ _ _ same_end
