-- No second answer of the public functions: of any queue whatever, only one answer meets each contract as the check states it.
-- Rules out: a contract that leaves a register or a cell open. Leaves: which answer it is (queue_chip/specs/Queue). (The law: crate one_answer,
-- proofs/Law.) Assumes nothing.
use seplogic.Ra.Ura.{Ura}
use base.Logic.{SProp}
use prog.Memory.{Memory}
use prog.Routine.{Routine}
use types.Logic.{Logic}
use contract.Monad.{Fun}
use Rattle.one_answer.proofs.Law.{OneAnswer, one}
use Rattle.queue.specs.contracts.none
use Rattle.queue.specs.contracts.find
use Rattle.queue.specs.contracts.insert
use Rattle.queue.specs.contracts.refill
use Rattle.queue.specs.contracts.woken
use Rattle.queue.specs.contracts.wake
use Rattle.queue.specs.contracts.wakes_left
use Rattle.queue.specs.contracts.follow

module _ {M : Type 1} {𝓤 : Ura M} (𝓛 : Logic 𝓤) (mem : Memory → SProp 𝓤) (run : Routine → Fun 𝓤) where
  pub none_single : OneAnswer 𝓤 none.ended (none.clauses 𝓛 mem run)
  none_single κs a g r s d e = one 𝓤 _ _ _

  pub find_single : OneAnswer 𝓤 find.ended (find.clauses 𝓛 mem run)
  find_single κs a g r s d e = one 𝓤 _ _ _

  pub insert_single : OneAnswer 𝓤 insert.ended (insert.clauses 𝓛 mem run)
  insert_single κs a g r s d e = one 𝓤 _ _ _

  pub refill_single : OneAnswer 𝓤 refill.ended (refill.clauses 𝓛 mem run)
  refill_single κs a g r s d e = one 𝓤 _ _ _

  pub woken_single : OneAnswer 𝓤 woken.ended (woken.clauses 𝓛 mem run)
  woken_single κs a g r s d e = one 𝓤 _ _ _

  pub wake_single : OneAnswer 𝓤 wake.ended (wake.clauses 𝓛 mem run)
  wake_single κs a g r s d e = one 𝓤 _ _ _

  pub wakes_left_single : OneAnswer 𝓤 wakes_left.ended (wakes_left.clauses 𝓛 mem run)
  wakes_left_single κs a g r s d e = one 𝓤 _ _ _

  pub follow_single : OneAnswer 𝓤 follow.ended (follow.clauses 𝓛 mem run)
  follow_single κs a g r s d e = one 𝓤 _ _ _
