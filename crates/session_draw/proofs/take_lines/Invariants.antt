-- `session_draw::take_lines` meets its contract: proofs/Drawing has the invariant, over the tables as they stand, and what a turn and each way out do.
-- Assumes nothing.
use Prim.Native.Nat.{suc, ◌*◌, ◌≤◌}
use lib.ListN.{length}
use Rattle.kernel.specs.Step.{tables}
use Rattle.session_stage.specs.Stage.{as_run}
use Rattle.session_draw.specs.Draw.{as_reader}
use Rattle.session_draw.proofs.Drawing.{Still}
use Rattle.session_draw.proofs.take_lines.Given as goal

abbrev pub invariant-loop-left : goal.invariant-loop-left
invariant-loop-left l = Still (as_reader (tables l.initial.base l.initial.ready l.initial.delayed l.initial.held l.initial.way l.initial.until l.initial.ceiling l.initial.waiter l.initial.clock l.initial.started) l.initial.course l.initial.kept) l.piece l.initial.out (as_run (tables l.base l.ready l.delayed l.held l.way l.until l.ceiling l.waiter l.clock l.started) l.course) l.kept l.from l.at l.left l.out
    × (192 * suc (length l.piece) ≤ length l.initial.out)

abbrev pub decreases-loop-left : goal.decreases-loop-left
decreases-loop-left l = l.left
