-- `report::put_answers` meets its contract: one text behind another. Assumes nothing.
use Rattle.report.proofs.Puts.{then}
use Rattle.report_text.specs.Report.{answers_text}
use Rattle.report.proofs.put_answers.Goals as goal

pub returns : goal.returns
unfolding answers_text
returns c =
    then (then (then c.put-first.ensures c.put_answer-next.ensures) c.put-second.ensures) c.put_answer.ensures
