-- `is_falling` meets its contract. The invariant: the line is in order just when the rest is, behind the level of the last entry passed.
-- Assumes nothing.
use Rattle.std.proofs.Common.{◌≡◌, drop}
use Rattle.kernel_order.specs.Order.{falls}
use Rattle.kernel_order.proofs.is_falling.Given as goal

abbrev pub invariant-loop-x : goal.invariant-loop-x
invariant-loop-x l = falls l.base l.ceiling l.held 15 l.line ≡ falls l.base l.ceiling l.held l.last (drop l.x-index l.line)
