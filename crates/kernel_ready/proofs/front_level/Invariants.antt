-- `front_level` meets its contract. The invariant: the count is i and that of the rest; each entry passed has an active priority of at least p.
-- Assumes nothing.
use Rattle.std.proofs.Common.{◌≡◌, ◌+◌, drop}
use Rattle.kernel_line.specs.Tables.{lead}
use Rattle.kernel_ready.specs.Ready.{lower}
use Rattle.kernel_ready.proofs.front_level.Given as goal

abbrev pub invariant-loop-i : goal.invariant-loop-i
invariant-loop-i l = lead (lower l.base l.ceiling l.held l.p) l.ready ≡ l.i + lead (lower l.base l.ceiling l.held l.p) (drop l.i l.ready)
