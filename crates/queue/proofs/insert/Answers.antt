-- `queue::insert` meets its contract, by its two tests. Assumes nothing.
use mathlib.Core.Path.{◌∙◌}
use Rattle.queue.proofs.Turns.{insert_alone, insert_sooner, insert_later}
use Rattle.queue.proofs.insert.Goals as goal

pub returns-then-task-eq0 : goal.returns-then-task-eq0
returns-then-task-eq0 c = let a = c.args in insert_alone a.q a.n a.t.0 c.if-task-eq0.true

pub returns-then-n-time : goal.returns-then-n-time
returns-then-n-time c =
    let a = c.args in
    c.push.ensures ∙ insert_sooner a.q a.n a.t.0 c.if-task-eq0.false c.if-n-time.true

pub returns-else-n-time : goal.returns-else-n-time
returns-else-n-time c =
    let a = c.args in
    c.put.ensures ∙ insert_later a.q a.n a.t.0 c.if-task-eq0.false c.if-n-time.false
