-- `tape_bench::tape_bench_read` meets its contract. The loop's invariant: the pass so far is the definition's after i turns. Assumes nothing.
use mathlib.Core.Path.{◌≡◌}
use Rattle.tape_bench.specs.Pass.{passed}
use Rattle.tape_bench.proofs.tape_bench_read.Given as goal

abbrev pub invariant-loop-i : goal.invariant-loop-i
invariant-loop-i l = l.p ≡ passed l.tape l._i
