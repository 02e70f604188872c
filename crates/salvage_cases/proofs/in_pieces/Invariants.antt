-- Each piece ends behind the one before.
use Rattle.std.proofs.Common.{◌-◌, ◌≤◌, length}
use Rattle.salvage_cases.proofs.in_pieces.Given as goal

abbrev pub invariant-loop-end : goal.invariant-loop-end
invariant-loop-end l = (l.done ≤ l.end) × (l.end ≤ length l.tape) × (l.kept ≤ length l.out) × (l.cells ≤ length l.list)

abbrev pub decreases-loop-end : goal.decreases-loop-end
decreases-loop-end l = length l.tape - l.end
