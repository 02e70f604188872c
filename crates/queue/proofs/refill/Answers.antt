-- `queue::refill` meets its contract: whom the search finds is read and stored away. Assumes nothing.
use mathlib.Core.Path.{◌≡◌, ap}
use lib.ListN.{length}
use borrow.Author.Rules.{rules}
use Rattle.kernel_line.specs.declared.TaskID.{TaskID}
use Rattle.queue.proofs.Turns.{time_at, time_set, taken_as}
use Rattle.queue.proofs.refill.Goals as goal

pub returns : goal.returns
returns c =
    let q = c.args.q in
    let s = c.find-s.result.0 in
    let size : length q.times ≡ 32 = search rules in
    rw (
      c.time_of-time.ensures,
      time_at q.times s size,
      c.of_task-age.ensures,
      c.set_time.ensures,
      time_set q.times s 0 size,
      c.set_task.ensures,
    )
    (taken_as q s (ap (λ (t : TaskID). t.0) c.find-s.ensures))
