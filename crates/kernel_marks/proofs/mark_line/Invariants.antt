-- `mark_line` meets its contract. The invariant: the marks are those of the rest on top of what is marked so far. Assumes nothing.
use Rattle.std.proofs.Common.{◌≡◌, drop, length}
use Rattle.kernel_line.specs.Tables.{no_task}
use Rattle.kernel_marks.specs.Marks.{marks}
use Rattle.kernel_marks.proofs.mark_line.Given as goal

abbrev pub invariant-loop-x : goal.invariant-loop-x
invariant-loop-x l = (length l.out ≡ 32) × (marks no_task l.mark l.line l.initial.out ≡ marks no_task l.mark (drop l.x-index l.line) l.out)
