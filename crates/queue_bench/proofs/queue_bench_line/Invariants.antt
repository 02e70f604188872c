-- `queue_bench_line` meets its contract. The invariant: line, times and total are the definition's behind i turns. Assumes nothing.
use Rattle.std.proofs.Common.{◌≡◌, ◌-◌, ◌≤◌, length}
use Rattle.queue_bench.specs.Stream.{lesser, line_of}
use Rattle.queue_bench.proofs.queue_bench_line.Given as goal

abbrev pub invariant-loop-i : goal.invariant-loop-i
invariant-loop-i l = (l.i ≤ l.n) × (l.n ≤ length l.tasks) × (l.n ≤ length l.values) × (l.n ≡ lesser (length l.tasks) (length l.values))
    × (l.delayed ≡ (line_of l.tasks l.values l.sum l.i).delayed) × (l.until ≡ (line_of l.tasks l.values l.sum l.i).until) × (l.total ≡ (line_of l.tasks l.values l.sum l.i).total)

abbrev pub decreases-loop-i : goal.decreases-loop-i
decreases-loop-i l = l.n - l.i
