-- `bench_run` meets its contract. The invariant: state and total are the definition's behind i commands. Assumes nothing.
use Rattle.std.proofs.Common.{◌≡◌}
use Rattle.kernel_bench.specs.Stream.{ran_of}
use Rattle.kernel_bench.proofs.bench_run.Given as goal

abbrev pub invariant-loop-i : goal.invariant-loop-i
invariant-loop-i l = (l.k ≡ (ran_of l.ops l.a l.b l.values l.sum l.i).state) × (l.total ≡ (ran_of l.ops l.a l.b l.values l.sum l.i).total)
