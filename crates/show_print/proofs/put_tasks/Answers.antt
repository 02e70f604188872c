-- What the check leaves of `put_tasks`.
use native.Mathlib.Omega.{arith}
use mathlib.Core.Path.{◌≡◌}
use Rattle.kernel.specs.View.{view}
use Rattle.text_print.proofs.Puts.{then}
use Rattle.show_text.specs.Block.{task_text, tasks_text}
use Rattle.show_print.proofs.Turns.{none_yet, one_more}
use Rattle.show_print.proofs.put_tasks.Goals as goal

pub loop-t-init : goal.loop-t-init
loop-t-init c = (omega arith, none_yet 8 _)

pub loop-t-preserved : goal.loop-t-preserved
unfolding task_text
loop-t-preserved c =
    let loop = c.loop-t in
    (omega arith, one_more 8 _ loop.t loop.invariant.1 c.put_task-next.ensures)

pub returns : goal.returns
unfolding tasks_text task_text view
returns c =
    let loop = c.loop-t in
    let all : loop.t ≡ 32 = omega arith in
    then (then c.put-next.ensures (rw all at loop.invariant.1)) c.put.ensures
