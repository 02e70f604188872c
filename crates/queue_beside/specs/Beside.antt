-- The chip's queue beside the whole state: both carry out one command.
use Rattle.std.specs.Prelude.{cond, eqb}
use Rattle.rules.specs.Machine.{Command, runner}
use Rattle.rules.specs.Kinds.{kind}
use Rattle.kernel_state.specs.declared.State.{State}
use Rattle.kernel_state.specs.Public.{view, step_of}
use Rattle.queue_chip.specs.declared.Queue.{Queue}
use Rattle.queue_chip.specs.Queue.{follow}
use Rattle.queue_beside.specs.declared.Moved.{Moved}

-- The queue behind a command: an accepted one moves it by its kind and its value, and by the clock and the runner
-- before it; a refused one leaves it. (Of a sound state: queue_chip's `beside`, proofs/Theorems.)
unfoldable pub followed : State → Command → Queue → Queue
followed s c q =
    cond (eqb (step_of s c).answer.code 0)
    (follow (kind c) s.kernel.clock c.value (runner (view s).machine) q)
    q

-- Both carried out: the step, and the queue behind it.
unfoldable pub moved_of : State → Queue → Command → Moved
moved_of s q c = record { next = (step_of s c).next; answer = (step_of s c).answer; queue = followed s c q }
