-- `decimal_print::counted_evenly` meets its contract. The invariant: what was taken off and what is left make n, and for each turn to come the power fits
-- once at most. Assumes nothing.
use Prim.Native.Nat.{◌-◌}
use Rattle.decimal_print.proofs.Turns.{Evenly}
use Rattle.decimal_print.proofs.counted_evenly.Given as goal

abbrev pub invariant-loop-turns : goal.invariant-loop-turns
invariant-loop-turns l = Evenly l.n l.power l.rest l.digit l.turns

abbrev pub decreases-loop-turns : goal.decreases-loop-turns
decreases-loop-turns l = 9 - l.turns
