-- No second answer of the judge's public functions: of any state, piece and tape, only one answer meets the contract as the check states it. The answer of
-- `feed` is the whole next state. Rules out: a contract that leaves a part of a verdict or of a state open. Leaves: which answer it is (specs/). (The law:
-- crate one_answer, proofs/Law.) Assumes nothing.
use seplogic.Ra.Ura.{Ura}
use base.Logic.{SProp}
use prog.Memory.{Memory}
use prog.Routine.{Routine}
use types.Logic.{Logic}
use contract.Monad.{Fun}
use Rattle.one_answer.proofs.Law.{OneAnswer, one}
use Rattle.judging.specs.contracts.Judge.fresh
use Rattle.judging.specs.contracts.Judge.feed
use Rattle.judging.specs.contracts.Judge.goes_on
use Rattle.judging.specs.contracts.Judge.end
use Rattle.judging.specs.contracts.status
use Rattle.judging.specs.contracts.judged

module _ {M : Type 1} {𝓤 : Ura M} (𝓛 : Logic 𝓤) (mem : Memory → SProp 𝓤) (run : Routine → Fun 𝓤) where
  pub fresh_single : OneAnswer 𝓤 fresh.ended (fresh.clauses 𝓛 mem run)
  fresh_single κs a g r s d e = one 𝓤 _ _ _

  pub feed_single : OneAnswer 𝓤 feed.ended (feed.clauses 𝓛 mem run)
  feed_single κs a g r s d e = one 𝓤 _ _ _

  pub goes_on_single : OneAnswer 𝓤 goes_on.ended (goes_on.clauses 𝓛 mem run)
  goes_on_single κs a g r s d e = one 𝓤 _ _ _

  pub end_single : OneAnswer 𝓤 end.ended (end.clauses 𝓛 mem run)
  end_single κs a g r s d e = one 𝓤 _ _ _

  pub status_single : OneAnswer 𝓤 status.ended (status.clauses 𝓛 mem run)
  status_single κs a g r s d e = one 𝓤 _ _ _

  pub judged_single : OneAnswer 𝓤 judged.ended (judged.clauses 𝓛 mem run)
  judged_single κs a g r s d e = one 𝓤 _ _ _
