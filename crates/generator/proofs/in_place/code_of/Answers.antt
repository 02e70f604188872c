-- `code_of` meets its contract: the checks of a draw in their order, 1 before the others. Assumes nothing.
use Rattle.kernel.specs.Step.{tables}
use Rattle.generator.proofs.Shipped.{checked}
use Rattle.generator.proofs.in_place.code_of.Goals as goal

pub returns : goal.returns
returns c =
    let a = c.args in
    let k = tables a.base.now a.ready.now a.delayed.now a.held.now a.way.now a.until.now
    a.ceiling a.waiter a.clock a.started in
    rw (c.choose.ensures, c.sound-sound.ensures, c.refusal-code.ensures) (checked k a.seed a.p)
