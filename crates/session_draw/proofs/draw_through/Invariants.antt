-- `session_draw::draw_through` meets its contract: proofs/Drawing has the invariant, over the tables as they stand, and what a turn and each way out do.
-- Assumes nothing.
use Prim.Native.Nat.{◌*◌, ◌≤◌}
use lib.ListN.{length}
use Rattle.kernel.specs.Step.{tables}
use Rattle.session_stage.specs.Stage.{as_run}
use Rattle.session_draw.proofs.Drawing.{Going}
use Rattle.session_draw.proofs.draw_through.Given as goal

abbrev pub invariant-loop-turns : goal.invariant-loop-turns
invariant-loop-turns l = Going (as_run (tables l.initial.base l.initial.ready l.initial.delayed l.initial.held l.initial.way l.initial.until l.initial.ceiling l.initial.waiter l.initial.clock l.initial.started) l.initial.course) l.most l.initial.out (as_run (tables l.base l.ready l.delayed l.held l.way l.until l.ceiling l.waiter l.clock l.started) l.course) l.at l.turns l.out
    × (192 * l.most ≤ length l.initial.out)

abbrev pub decreases-loop-turns : goal.decreases-loop-turns
decreases-loop-turns l = l.turns
