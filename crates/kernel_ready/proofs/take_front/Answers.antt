-- `take_front` meets its contract: the line in the table without its front. Assumes nothing.
use Rattle.kernel_ready.specs.Ready.{popped}
use Rattle.kernel_ready.proofs.take_front.Goals as goal

pub returns : goal.returns
unfolding popped
returns c = c.drop_front.ensures
