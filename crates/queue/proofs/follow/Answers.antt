-- `queue::follow` meets its contract, by the kind of command. Assumes nothing.
use mathlib.Core.Path.{◌∙◌}
use Rattle.queue.proofs.Turns.{follow_above, follow_not, follow_wake, follow_other}
use Rattle.queue.proofs.follow.Goals as goal

pub returns-then-now-value : goal.returns-then-now-value
returns-then-now-value c =
    let a = c.args in
    c.insert.ensures ∙ follow_above a.q a.now a.value a.runner.0 a.k c.in-Delaying.is c.if-now-value.true

pub returns-else-now-value : goal.returns-else-now-value
returns-else-now-value c =
    let a = c.args in
    follow_not a.q a.now a.value a.runner.0 a.k c.in-Delaying.is c.if-now-value.false

pub returns-in-Waking : goal.returns-in-Waking
returns-in-Waking c =
    let a = c.args in
    c.wake.ensures ∙ follow_wake a.q a.now a.value a.runner.0 a.k c.in-Waking.is

pub returns-in_default : goal.returns-in_default
returns-in_default c =
    let a = c.args in
    follow_other a.q a.now a.value a.runner.0 a.k c.in_default.not-Delaying c.in_default.not-Waking
