-- What the loop of `all_pieces` keeps: as many pieces were read as there were turns, and the program stands behind them (proofs/Turns).
use Rattle.programs_flow.proofs.Turns.{Running}
use Rattle.programs_flow.proofs.pieces.all_pieces.Given as goal

abbrev pub invariant-loop : goal.invariant-loop
invariant-loop g l = let p = g.P.Program in Running p.after (p.text l.program) l.initial.s l.s l.initial.went l.went l.counter
