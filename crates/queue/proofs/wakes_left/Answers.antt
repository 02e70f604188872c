-- `queue::wakes_left` meets its contract: in the registers, or by the count of the table's cells before it. Assumes nothing.
use Prim.Native.Nat.{◌≤◌}
use mathlib.Core.Path.{◌≡◌}
use lib.ListN.{length}
use borrow.Author.Rules.{rules}
use Rattle.rules.specs.Line.{at}
use Rattle.queue_chip.specs.Queue.{sooner}
use Rattle.queue.proofs.Turns.{time_at, many_most, left_own, left_other}
use Rattle.queue.proofs.wakes_left.Goals as goal

pub returns-then-task-t : goal.returns-then-task-t
returns-then-task-t c = let a = c.args in rw c.choose.ensures (left_own a.q a.now a.t.0 c.if-task-t.true)

pub overflow_add-n : goal.overflow_add-n
overflow_add-n c =
    let q = c.args.q in
    let few : c.count_sooner-n.result ≤ 32 =
    rw c.count_sooner-n.ensures
    (many_most 32 (λ u. sooner (at q.times u) (at q.ages u) c.time_of-m.result c.of_task-b.result)) in
    search rules

pub returns : goal.returns
returns c =
    let a = c.args in
    let size : length a.q.times ≡ 32 = search rules in
    rw (
      c.choose-2.ensures,
      c.count_sooner-n.ensures,
      c.of_task-b.ensures,
      c.time_of-m.ensures,
      time_at a.q.times a.t.0 size,
    )
    (left_other a.q a.now a.t.0 c.if-task-t.false)
