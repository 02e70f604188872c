-- `tape_bench::fill` meets its contract. The loop's invariant: the buffer is the definition's after i records. Assumes nothing.
use mathlib.Core.Path.{◌≡◌}
use Prim.Native.Nat.{◌+◌, ◌*◌}
use Rattle.tape_bench.specs.Pass.{filled}
use Rattle.tape_bench.proofs.fill.Given as goal

abbrev pub invariant-loop-i : goal.invariant-loop-i
invariant-loop-i l = (l.at ≡ 16 * l.i + 16) × (l.out ≡ filled l.initial.out l.i)
