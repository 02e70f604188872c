-- What the loop of `run` counts: the draws.
use Rattle.std.proofs.Common.{◌-◌, ◌≤◌}
use Rattle.queue_run.proofs.run.Given as goal

abbrev pub invariant-loop-n : goal.invariant-loop-n
invariant-loop-n g l = l.n ≤ 100000

abbrev pub decreases-loop-n : goal.decreases-loop-n
decreases-loop-n g l = 100000 - l.n
