-- `queue_beside::step` meets its contract: the step's own, and the queue by who ran, which the table tells as the machine does. Assumes nothing.
use Rattle.kernel_state.specs.Public.{view}
use Rattle.kernel_state.proofs.Steps.{ran}
use Rattle.queue_beside.specs.Beside.{followed, moved_of}
use Rattle.queue_beside.proofs.step.Goals as goal

pub returns : goal.returns
unfolding followed moved_of view
returns c = rw (c.follow_accepted-queue.ensures, c.step-done.ensures, c.runner-runner.ensures, ran c.args.s.kernel)
