-- What the loop of `write_all` keeps: no more was taken than there is.
use Rattle.std.proofs.Common.{◌≤◌, length}
use Rattle.programs_flow.proofs.write_all.Given as goal

abbrev pub invariant-loop : goal.invariant-loop
invariant-loop g l = l.at ≤ length l.out
