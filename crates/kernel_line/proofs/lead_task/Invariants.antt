-- `lead_task` meets its contract. The invariant: the count is n and that of the rest; each entry passed is another task. Assumes nothing.
use Rattle.std.proofs.Common.{◌≡◌, ◌+◌, eqb, drop}
use Rattle.kernel_line.specs.Tables.{lead}
use Rattle.kernel_line.proofs.lead_task.Given as goal

abbrev pub invariant-loop-n : goal.invariant-loop-n
invariant-loop-n l = lead (eqb l.t.0) l.x-items ≡ l.n + lead (eqb l.t.0) (drop l.n l.x-items)
