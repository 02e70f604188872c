-- `holders` meets its contract. The invariant: the count is n and that of the rest. Assumes nothing.
use Rattle.std.proofs.Common.{◌≡◌, ◌+◌, ◌≤◌, drop}
use Rattle.rules.specs.Line.{count}
use Rattle.kernel_line.proofs.holders.Given as goal

abbrev pub invariant-loop-x : goal.invariant-loop-x
invariant-loop-x l = (l.n ≤ l.x-index) × (count l.o.0 l.held ≡ l.n + count l.o.0 (drop l.x-index l.held))
