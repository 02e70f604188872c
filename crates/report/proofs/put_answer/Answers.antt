-- `report::put_answer` meets its contract: one text behind another. Assumes nothing.
use Rattle.report.proofs.Puts.{then}
use Rattle.report_text.specs.Report.{answer_text}
use Rattle.report.proofs.put_answer.Goals as goal

pub returns : goal.returns
unfolding answer_text
returns c =
    then (then c.put_small-running.ensures c.put_small-released.ensures) c.put_small.ensures
