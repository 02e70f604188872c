-- `is_ended` meets its contract. The invariant: the line is ended just when it is so far and the rest is. Assumes nothing.
use Rattle.std.proofs.Common.{◌≡◌, ◌&&◌, drop}
use Rattle.kernel_order.specs.Order.{ended}
use Rattle.kernel_order.proofs.is_ended.Given as goal

abbrev pub invariant-loop-i : goal.invariant-loop-i
invariant-loop-i l = ended l.line ≡ l.ends && ended (drop l.i l.line)
