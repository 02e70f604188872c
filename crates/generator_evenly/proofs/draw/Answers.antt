-- `generator_evenly::draw` meets its contract: a draw with a code is refused, and leaves the seed; any other is made. Assumes nothing.
use Rattle.kernel.specs.Step.{tables}
use Rattle.generator_evenly.proofs.Ways.{refuses, makes}
use Rattle.generator_evenly.proofs.draw.Goals as goal

pub returns-then-code-ne0 : goal.returns-then-code-ne0
returns-then-code-ne0 c =
    let a = c.args in
    -- the lent tables
    let k = tables a.base.now a.ready.now a.delayed.now a.held.now a.way.now a.until.now
    a.ceiling a.waiter a.clock a.started in
    refuses k a.seed a.p _ _ c.code_of-code.ensures c.if-code-ne0.true c.refused.ensures

pub returns : goal.returns
returns c =
    let a = c.args in
    let k = tables a.base.now a.ready.now a.delayed.now a.held.now a.way.now a.until.now
    a.ceiling a.waiter a.clock a.started in
    makes k a.seed a.p _ _ _ c.code_of-code.ensures c.if-code-ne0.false
    c.make_evenly-d.ensures c.made.ensures
