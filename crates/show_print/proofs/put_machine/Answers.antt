-- `show_print::put_machine` meets its contract: one text behind another. Assumes nothing.
use Rattle.text_print.proofs.Puts.{then}
use Rattle.show_print.proofs.put_machine.Goals as goal

pub returns : goal.returns
returns c =
    then (then (then c.put_flags-tasks.ensures c.put_tasks-ready.ensures) c.put_ready-delay.ensures) c.put_delay.ensures
