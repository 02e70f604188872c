-- `queue::wake` meets its contract, by its test. Assumes nothing.
use mathlib.Core.Path.{◌∙◌}
use mathlib.Core.Bool.{true, false}
use Rattle.queue.proofs.Turns.{wake_as}
use Rattle.queue.proofs.wake.Goals as goal

pub returns-then-due : goal.returns-then-due
returns-then-due c = let a = c.args in c.refill.ensures ∙ wake_as a.q a.now true c.if-due.true

pub returns-else-due : goal.returns-else-due
returns-else-due c = let a = c.args in wake_as a.q a.now false c.if-due.false
