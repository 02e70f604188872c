-- The tasks stay below 32.
use Rattle.std.proofs.Common.{◌-◌, ◌≤◌}
use Rattle.queue_run.proofs.created.Given as goal

abbrev pub invariant-loop-t : goal.invariant-loop-t
invariant-loop-t l = l.t ≤ 32

abbrev pub decreases-loop-t : goal.decreases-loop-t
decreases-loop-t l = 32 - l.t
