-- `session_walk::walk_through` meets its contract: proofs/Feeding has the invariant, over the tables as they stand, and what a turn and each way out do.
-- Assumes nothing.
use Prim.Native.Nat.{suc, ◌*◌, ◌≤◌}
use lib.ListN.{length}
use Rattle.kernel.specs.Step.{tables}
use Rattle.session_walk_text.specs.Walk.{standing}
use Rattle.session_walk.proofs.Feeding.{Still}
use Rattle.session_walk.proofs.walk_through.Given as goal

abbrev pub invariant-loop-left : goal.invariant-loop-left
invariant-loop-left l = Still (standing (tables l.initial.base l.initial.ready l.initial.delayed l.initial.held l.initial.way l.initial.until l.initial.ceiling l.initial.waiter l.initial.clock l.initial.started) l.initial.kept l.initial.n) l.piece l.initial.out (tables l.base l.ready l.delayed l.held l.way l.until l.ceiling l.waiter l.clock l.started) l.kept l.n l.from l.at l.left l.out
    × (128 * suc (length l.piece) ≤ length l.initial.out)

abbrev pub decreases-loop-left : goal.decreases-loop-left
decreases-loop-left l = l.left
