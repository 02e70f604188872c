-- `queue_bench_chip` meets its contract. The invariant: queue and total are the definition's behind i turns. Assumes nothing.
use Rattle.std.proofs.Common.{◌≡◌, ◌-◌, ◌≤◌, length}
use Rattle.queue_bench.specs.Stream.{lesser, chip_of}
use Rattle.queue_bench.proofs.queue_bench_chip.Given as goal

abbrev pub invariant-loop-i : goal.invariant-loop-i
invariant-loop-i l = (l.i ≤ l.n) × (l.n ≤ length l.tasks) × (l.n ≤ length l.values) × (l.n ≡ lesser (length l.tasks) (length l.values))
    × (l.q ≡ (chip_of l.tasks l.values l.sum l.i).queue) × (l.total ≡ (chip_of l.tasks l.values l.sum l.i).total)

abbrev pub decreases-loop-i : goal.decreases-loop-i
decreases-loop-i l = l.n - l.i
