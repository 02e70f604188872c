-- `queue::aged_by` meets its contract, by its loop: what is stored so far, and the same of the rest. Assumes nothing.
use Prim.Native.Nat.{◌-◌, ◌≤◌}
use mathlib.Core.Path.{◌≡◌}
use mathlib.Core.List.{◌++◌}
use lib.ListN.{length, take, drop}
use Rattle.queue_chip.specs.Queue.{aged}
use Rattle.queue.proofs.aged_by.Given as goal

abbrev pub invariant-loop-i : goal.invariant-loop-i
invariant-loop-i l = (l.i ≤ 32) × (length l.out ≡ 32) × (aged l.n l.times l.ages ≡ take l.i l.out ++ aged l.n (drop l.i l.times) (drop l.i l.ages))

abbrev pub decreases-loop-i : goal.decreases-loop-i
decreases-loop-i l = 32 - l.i
