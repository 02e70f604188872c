-- A lot is drawn and written in each turn (proofs/Draws).
use Rattle.std.proofs.Common.{arith, inr, sym, ◌∙◌}
use Rattle.programs_draw.proofs.Draws.{none_drawn, lot_drawn, fewer, out_of_draws}
use Rattle.programs_draw.proofs.all_draws.Goals as goal

pub loop-run-init : goal.loop-run-init
loop-run-init g c = none_drawn _ _

pub loop-run-smaller : goal.loop-run-smaller
loop-run-smaller g c = fewer c.loop-run.run _ c.if-run-eq-DRAWING.true c.if-run-gt0.true c.put_draws-f.ensures.0

pub loop-run-preserved : goal.loop-run-preserved
loop-run-preserved g c =
    let lp = c.loop-run in
    let put = c.put_draws-f in
    let on = sym c.has_failed.ensures ∙ c.loop-run-test.true in
    lot_drawn _ lp.run _ _ lp.went _ put.result.at _ lp.invariant on put.ensures.0 put.ensures.1 c.write_whole-went.ensures

pub returns-else-run-gt0 : goal.returns-else-run-gt0
returns-else-run-gt0 g c =
    let lp = c.loop-run in
    let on = sym c.has_failed.ensures ∙ c.loop-run-test.true in
    out_of_draws _ lp.run _ lp.went lp.invariant (inr (on, λ _. omega (arith, c.if-run-gt0.false)))

pub returns-else-run-eq-DRAWING : goal.returns-else-run-eq-DRAWING
returns-else-run-eq-DRAWING g c =
    let lp = c.loop-run in
    let on = sym c.has_failed.ensures ∙ c.loop-run-test.true in
    out_of_draws _ lp.run _ lp.went lp.invariant (inr (on, λ s. absurd (c.if-run-eq-DRAWING.false s)))
