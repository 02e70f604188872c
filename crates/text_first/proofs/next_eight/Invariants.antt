-- `text_first::next_eight` meets its contract. The invariant: those read, and those that are left to read, make all eight. Assumes nothing.
use Prim.Native.Nat.{◌-◌}
use Rattle.text_first.proofs.Opening.{Filled}
use Rattle.text_first.proofs.next_eight.Given as goal

abbrev pub invariant-loop-i : goal.invariant-loop-i
invariant-loop-i l = Filled l.line l.at l.valid l.values l.next l.i

abbrev pub decreases-loop-i : goal.decreases-loop-i
decreases-loop-i l = 8 - l.i
