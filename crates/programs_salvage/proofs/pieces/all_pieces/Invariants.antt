-- What the loop of `all_pieces` keeps: as many pieces were read as there were turns, and the salvage stands behind them (proofs/Rounds).
use Rattle.std.proofs.Common.{◌-◌}
use Rattle.programs_flow.specs.Flow.{nothing_yet}
use Rattle.programs_flow.specs.Loops.{all_turns}
use Rattle.programs_flow.proofs.Turns.{Running}
use Rattle.programs_salvage.specs.Work.{before_all, both_of, then}
use Rattle.programs_salvage.specs.Turns.{standing, Sane}
use Rattle.programs_salvage.proofs.pieces.all_pieces.Given as goal

abbrev pub invariant-loop-turns : goal.invariant-loop-turns
invariant-loop-turns g l = Sane l.stand × Running then both_of before_all (standing l.stand l.buf) nothing_yet l.went l.turns

abbrev pub decreases-loop-turns : goal.decreases-loop-turns
decreases-loop-turns g l = all_turns - l.turns
