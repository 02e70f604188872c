-- `report::put_difference` meets its contract: one text behind another. Assumes nothing.
use Rattle.report.proofs.Puts.{then}
use Rattle.report_text.specs.Report.{difference_text}
use Rattle.report.proofs.put_difference.Goals as goal

pub returns : goal.returns
unfolding difference_text
returns c =
    then (then (then (then c.put-number.ensures (rw c.place_of.ensures at c.put_where-colon.ensures)) c.put-command.ensures)
    c.put_command-answers.ensures) c.put_answers.ensures
