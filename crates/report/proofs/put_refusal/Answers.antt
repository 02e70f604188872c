-- `report::put_refusal` meets its contract: one text behind another. Assumes nothing.
use Rattle.report.proofs.Puts.{then}
use Rattle.report_text.specs.Report.{verdict_text}
use Rattle.report.proofs.put_refusal.Goals as goal

pub returns : goal.returns
unfolding verdict_text
returns c =
    then c.put_small-number.ensures c.put_where.ensures
