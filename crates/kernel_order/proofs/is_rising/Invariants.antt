-- `is_rising` meets its contract. The invariant: the line is in order just when the rest is, behind the time of the last entry passed.
-- Assumes nothing.
use Rattle.std.proofs.Common.{◌≡◌, drop}
use Rattle.kernel_order.specs.Order.{rises}
use Rattle.kernel_order.proofs.is_rising.Given as goal

abbrev pub invariant-loop-x : goal.invariant-loop-x
invariant-loop-x l = rises l.until 0 l.line ≡ rises l.until l.last (drop l.x-index l.line)
