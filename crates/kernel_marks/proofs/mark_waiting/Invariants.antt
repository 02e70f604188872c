-- `mark_waiting` meets its contract. The invariant: the marks are those of the rest on top of what is marked so far. Assumes nothing.
use Rattle.std.proofs.Common.{◌≡◌, drop, length, leb}
use Rattle.kernel_marks.specs.Marks.{marks}
use Rattle.kernel_marks.proofs.mark_waiting.Given as goal

abbrev pub invariant-loop-x : goal.invariant-loop-x
invariant-loop-x l = (length l.out ≡ 32) × (marks (leb 32) l.mark l.x-items l.initial.out ≡ marks (leb 32) l.mark (drop l.x-index l.x-items) l.out)
