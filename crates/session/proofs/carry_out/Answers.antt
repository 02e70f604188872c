-- `session::carry_out` meets its contract: the line says no command, and the tables stay, or it is a step of theirs. Assumes nothing.
use mathlib.Core.Path.{ap}
use Rattle.kernel_line.specs.declared.TaskID.{TaskID}
use Rattle.kernel.specs.Step.{tables}
use Rattle.session.proofs.CarryingOut.{says_none, says_one}
use Rattle.session.proofs.carry_out.Goals as goal

pub returns-then-s-ne0 : goal.returns-then-s-ne0
returns-then-s-ne0 c =
    let a = c.args in
    let k = tables a.base.now a.ready.now a.delayed.now a.held.now a.way.now a.until.now a.ceiling.now a.waiter.now
    a.clock.now a.started.now in
    let run = c.running-running in
    says_none k a.n a.s run.result.0 c.row_of.result c.if-s-ne0.true
    (ap (λ (t : TaskID). t.0) run.ensures) c.row_of.ensures

pub returns : goal.returns
returns c =
    let step = c.step-answer in
    let test = c in
    let a = test.args in
    let k = tables a.base.now a.ready.now a.delayed.now a.held.now a.way.now a.until.now a.ceiling.now a.waiter.now
    a.clock.now a.started.now in
    says_one k a.n a.s _ step.result c.row_of-2.result test.if-s-ne0.false step.ensures.0 step.ensures.1 c.row_of-2.ensures
