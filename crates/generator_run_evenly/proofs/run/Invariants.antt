-- What the loop of `run` counts: the draws.
use Rattle.std.proofs.Common.{◌-◌, ◌≤◌}
use Rattle.generator_run_evenly.proofs.run.Given as goal

abbrev pub invariant-loop-n : goal.invariant-loop-n
invariant-loop-n g l = l.n ≤ 25000

abbrev pub decreases-loop-n : goal.decreases-loop-n
decreases-loop-n g l = 25000 - l.n
