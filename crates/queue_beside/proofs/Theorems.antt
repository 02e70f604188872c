-- What is promised of the queue beside the whole state, each in plain words and then in antt. Assumes nothing.
use mathlib.Core.Bool.{true}
use mathlib.Core.Path.{◌≡◌}
use Rattle.rules.specs.Machine.{Command}
use Rattle.rules_exceptions.specs.Exceptions.{answer}
use Rattle.kernel.specs.View as K
use Rattle.kernel_state.specs.declared.State.{State}
use Rattle.kernel_state.specs.Public.{view, is_sound, step_of}
use Rattle.queue_chip.specs.declared.Queue.{Queue}
use Rattle.queue_chip.specs.Queue.{beside}
use Rattle.queue_beside.specs.Beside.{followed}

-- Of a sound state it is the queue that stands beside the machine in queue_chip. So all that is promised there holds of it: it stands for the delay line, and
-- from the fresh machine on it is the second model's.
-- Rules out: a queue that follows a refused command, or goes by the clock or the runner behind the command. Leaves: nothing of the queue.
pub is_beside : (s : State) (c : Command) (q : Queue) → is_sound s ≡ true → followed s c q ≡ beside (view s).machine c q
unfolding followed step_of answer beside view K.view
is_beside s c q e = rw e
