-- `front_time` meets its contract. The invariant: the count is i and that of the rest; each entry passed has a time of at most v. Assumes nothing.
use Rattle.std.proofs.Common.{◌≡◌, ◌+◌, drop}
use Rattle.kernel_line.specs.Tables.{lead, later}
use Rattle.kernel_place.proofs.front_time.Given as goal

abbrev pub invariant-loop-i : goal.invariant-loop-i
invariant-loop-i l = lead (later l.until l.v) l.line ≡ l.i + lead (later l.until l.v) (drop l.i l.line)
