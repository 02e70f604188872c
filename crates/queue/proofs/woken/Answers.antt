-- `queue::woken` meets its contract: the choice is the definition. Assumes nothing.
use Rattle.queue.proofs.Turns.{woken_as}
use Rattle.queue.proofs.woken.Goals as goal

pub returns : goal.returns
returns c = let a = c.args in rw (c.choose.ensures, woken_as a.q a.now)
