-- `is_free` meets its contract. The invariant: all is free just when it is so far and the rest is. Assumes nothing.
use Rattle.std.proofs.Common.{◌≡◌, ◌&&◌, drop}
use Rattle.kernel_line.specs.Tables.{zeros}
use Rattle.kernel_order.proofs.is_free.Given as goal

abbrev pub invariant-loop-x : goal.invariant-loop-x
invariant-loop-x l = zeros l.cells ≡ l.free && zeros (drop l.x-index l.cells)
