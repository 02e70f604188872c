-- `records` meets its contract: what is left of the piece, from the run that the tables and the head are, is the whole piece from the first.
-- Assumes nothing.
use Prim.Native.Nat.{◌-◌, ◌≤◌}
use mathlib.Core.Path.{◌≡◌}
use lib.ListN.{length, drop}
use Rattle.kernel.specs.Step.{tables}
use Rattle.judging.specs.Pieces.{through}
use Rattle.judge_pieces.specs.Onward.{run_of}
use Rattle.judging.proofs.in_place.records.Given as goal

abbrev pub invariant-loop-at : goal.invariant-loop-at
invariant-loop-at l =
    (l.at ≤ length l.piece)
    × (through (run_of (tables l.base l.ready l.delayed l.held l.way l.until l.ceiling l.waiter l.clock l.started) l.head) (drop l.at l.piece)
    ≡ through (run_of (tables l.fn.base l.fn.ready l.fn.delayed l.fn.held l.fn.way l.fn.until l.fn.ceiling l.fn.waiter l.fn.clock l.fn.started) l.fn.head)
    l.piece)

abbrev pub decreases-loop-at : goal.decreases-loop-at
decreases-loop-at l = length l.piece - l.at
