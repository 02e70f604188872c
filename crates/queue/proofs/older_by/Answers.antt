-- `queue::older_by` meets its contract: the choice is the definition. Assumes nothing.
use Rattle.queue.proofs.Turns.{older_as}
use Rattle.queue.proofs.older_by.Goals as goal

pub returns : goal.returns
returns c = let a = c.args in rw (c.choose.ensures, c.one_more.ensures) (older_as a.n a.m a.age)
