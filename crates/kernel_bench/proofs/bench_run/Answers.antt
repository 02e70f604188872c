-- What the check leaves of `bench_run`: behind the loop the index is the number of commands.
use Rattle.std.proofs.Common.{◌≡◌, arith}
use Rattle.kernel_bench.specs.Stream.{count_of, gathered}
use Rattle.kernel_bench.proofs.bench_run.Goals as goal

pub returns : goal.returns
unfolding gathered
returns c =
    let a = c.args in
    let n : c.min-n.result ≡ count_of a.ops.now a.a.now a.b.now a.values.now = rw (c.min-n.ensures, c.min.ensures, c.min-2.ensures) in
    let end : c.loop-i.i ≡ count_of a.ops.now a.a.now a.b.now a.values.now = omega (arith, n) in
    rw (c.loop-i.invariant.0, c.loop-i.invariant.1, end)
