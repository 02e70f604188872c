-- `salvage_print::put_stretches` meets its contract. The invariant: the buffer, with what is left of the list put behind, is the buffer that is wanted
-- (proofs/Behind). Assumes nothing.
use lib.ListN.{length}
use Rattle.salvage_print.proofs.Behind.{Left}
use Rattle.salvage_print.proofs.put_stretches.Given as goal

abbrev pub invariant-loop-left : goal.invariant-loop-left
invariant-loop-left l = Left l.cells l.initial.out l.out l.at l.left

abbrev pub decreases-loop-left : goal.decreases-loop-left
decreases-loop-left l = length l.left
