-- The index stays below 32, and the count does not pass it.
use Rattle.std.proofs.Common.{◌-◌, ◌≤◌}
use Rattle.queue_run.proofs.sleepers.Given as goal

abbrev pub invariant-loop-i : goal.invariant-loop-i
invariant-loop-i l = (l.i ≤ 32) × (l.n ≤ l.i)

abbrev pub decreases-loop-i : goal.decreases-loop-i
decreases-loop-i l = 32 - l.i
