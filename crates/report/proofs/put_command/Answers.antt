-- `report::put_command` meets its contract: one text behind another. Assumes nothing.
use Rattle.report.proofs.Puts.{then}
use Rattle.report_text.specs.Report.{command_text}
use Rattle.report.proofs.put_command.Goals as goal

pub returns : goal.returns
unfolding command_text
returns c =
    then (then (then (then (then c.put_line-op.ensures c.put_small-a.ensures) c.put_small-b.ensures)
    c.put_small-value.ensures) c.put_named-end.ensures) c.put.ensures
