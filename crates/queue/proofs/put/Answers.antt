-- `queue::put` meets its contract: the others are one older, and two stores. Assumes nothing.
use mathlib.Core.Path.{◌≡◌}
use lib.ListN.{length}
use borrow.Author.Rules.{rules}
use Rattle.queue.proofs.Turns.{time_set}
use Rattle.queue.proofs.put.Goals as goal

pub returns : goal.returns
returns c =
    let a = c.args in
    let size : length a.q.times ≡ 32 = search rules in
    rw (
      c.older_by-own.ensures,
      c.set_time.ensures,
      time_set a.q.times a.t.0 a.n size,
      c.set_task.ensures,
      c.aged_by-ages.ensures,
    )
