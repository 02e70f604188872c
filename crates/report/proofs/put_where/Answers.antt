-- `report::put_where` meets its contract: one text behind another. Assumes nothing.
use Rattle.report.proofs.Puts.{then}
use Rattle.report_text.specs.Report.{stands_at}
use Rattle.report.proofs.put_where.Goals as goal

pub returns : goal.returns
unfolding stands_at
returns c =
    then c.put_named-byte.ensures c.put_named.ensures
