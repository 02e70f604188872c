-- `generator_evenly::draw_and_step` meets its contract: a refused draw leaves the tables. A draw that is made comes from a sound state, and the step of
-- such a state needs no test (kernel, Whole: step-meets). Assumes nothing.
use Rattle.kernel.specs.Step.{tables}
use Rattle.generator_evenly.proofs.Ways.{stays, steps}
use Rattle.generator_evenly.proofs.draw_and_step.Goals as goal

pub returns-then-drawn-ne0 : goal.returns-then-drawn-ne0
returns-then-drawn-ne0 c =
    let a = c.args in
    -- the lent tables, where the clock was looked at
    let k = tables a.base.now a.ready.now a.delayed.now a.held.now a.way.now a.until.now
    a.ceiling.now a.waiter.now a.clock.now a.started.now in
    stays k a.seed a.p _ _ c.draw-drawn.ensures c.if-drawn-ne0.true
    (rw (c.unmoved-answer.ensures, c.running-running.ensures))

pub returns : goal.returns
returns c =
    let a = c.args in
    let k = tables a.base.now a.ready.now a.delayed.now a.held.now a.way.now a.until.now
    a.ceiling.now a.waiter.now a.clock.now a.started.now in
    steps k a.seed a.p _ _ _ c.draw-drawn.ensures c.if-drawn-ne0.false c.step_trusting-answer.ensures
