-- `queue::find` meets its contract, by its loop: the best so far is the soonest of the tasks so far. Assumes nothing.
use Prim.Native.Nat.{◌-◌, ◌≤◌, ◌<◌}
use mathlib.Core.Path.{◌≡◌}
use Rattle.queue_chip.specs.Queue.{soonest}
use Rattle.queue.proofs.find.Given as goal

abbrev pub invariant-loop-k : goal.invariant-loop-k
invariant-loop-k l = (l.k ≤ 32) × (l.best < 32) × (l.best ≡ soonest l.k l.times l.ages)

abbrev pub decreases-loop-k : goal.decreases-loop-k
decreases-loop-k l = 32 - l.k
