-- The turns are counted (proofs/Rounds).
use Rattle.std.proofs.Common.{arith, refl, ap, sym, ◌∙◌}
use Rattle.salvage_marks.specs.declared.Torn.{Torn}
use Rattle.programs_flow.specs.Flow.{nothing_yet}
use Rattle.programs_flow.proofs.Turns.{at_start, gone_on}
use Rattle.programs_salvage.specs.Work.{before_all, both_of, then}
use Rattle.programs_salvage.specs.Turns.{standing}
use Rattle.programs_salvage.proofs.Rounds.{ran_on}
use Rattle.programs_salvage.proofs.pieces.all_pieces.Goals as goal

pub loop-turns-init : goal.loop-turns-init
loop-turns-init g c =
    let first = c.at_first in (
      (omega arith, omega (arith, ap (λ (t : Torn). t.place) first.ensures), omega arith),
      at_start then both_of before_all _ nothing_yet c.going-went.result (rw first.ensures refl) c.going-went.ensures,
    )

pub loop-turns-preserved : goal.loop-turns-preserved
loop-turns-preserved g c =
    let lp = c.loop-turns in
    let one = c.one_piece-t in
    let on = gone_on lp.went.state (sym c.goes_on.ensures ∙ c.if-goes_on.true) in
    (one.ensures.1, ran_on (standing lp.stand lp.buf) _ lp.went one.result.went lp.turns _ _ lp.invariant.1 on one.ensures.0)
