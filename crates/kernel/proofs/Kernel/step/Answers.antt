-- `Kernel::step` is step_of: the step in place on the state that came by value. Assumes nothing.
use Rattle.kernel.proofs.Kernel.step.Goals as goal

pub returns : goal.returns
returns c = rw (c.step-answer.ensures.0, c.step-answer.ensures.1)
