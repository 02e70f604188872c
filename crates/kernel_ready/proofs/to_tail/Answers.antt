-- `to_tail` meets its contract: the task's base is looked up, and it is put at the tail of that. Assumes nothing.
use Rattle.kernel_ready.proofs.to_tail.Goals as goal

pub returns : goal.returns
returns c = rw (c.put_tail.ensures, c.of_task-p.ensures)
