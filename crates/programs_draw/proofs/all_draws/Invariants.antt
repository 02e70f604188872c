-- What the loop of `all_draws` keeps: what was drawn so far is written (proofs/Draws). Each turn leaves fewer draws.
use Rattle.programs_draw.proofs.Draws.{Drawing}
use Rattle.programs_draw.proofs.all_draws.Given as goal

abbrev pub invariant-loop-run : goal.invariant-loop-run
invariant-loop-run g l = Drawing l.initial.run l.run l.initial.went l.went

abbrev pub decreases-loop-run : goal.decreases-loop-run
decreases-loop-run g l = l.run.left
