-- `decimal_print::width` meets its contract. The invariant: n has at least so many digits. Assumes nothing.
use Prim.Native.Nat.{◌-◌, ◌≤◌}
use Rattle.decimal_print.specs.Method.{width_in}
use Rattle.decimal_print.proofs.width.Given as goal

abbrev pub invariant-loop-k : goal.invariant-loop-k
invariant-loop-k l = (1 ≤ l.k) × (l.k ≤ width_in 20 l.n)

abbrev pub decreases-loop-k : goal.decreases-loop-k
decreases-loop-k l = 20 - l.k
