-- `queue::count_sooner` meets its contract, by its loop: the count so far is of the cells so far. Assumes nothing.
use Prim.Native.Nat.{ℕ, ◌-◌, ◌≤◌}
use mathlib.Core.Path.{◌≡◌}
use Rattle.rules.specs.Line.{at}
use Rattle.queue_chip.specs.Queue.{sooner, how_many}
use Rattle.queue.proofs.count_sooner.Given as goal

abbrev pub invariant-loop-i : goal.invariant-loop-i
invariant-loop-i l = (l.i ≤ 32) × (l.n ≤ l.i) × (l.n ≡ how_many l.i (λ (u : ℕ). sooner (at l.times u) (at l.ages u) l.m l.b))

abbrev pub decreases-loop-i : goal.decreases-loop-i
decreases-loop-i l = 32 - l.i
