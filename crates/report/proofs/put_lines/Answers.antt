-- `report::put_lines` meets its contract: one text behind another. Assumes nothing.
use native.Mathlib.Omega.{arith}
use Rattle.report.proofs.Puts.{then, wider}
use Rattle.report_text.specs.Report.{report_text, report_room}
use Rattle.report.proofs.put_lines.Goals as goal

pub returns : goal.returns
unfolding report_text
returns c =
    wider report_room (omega arith)
    (then (then (then c.put_named-first.ensures c.put-second.ensures) c.put_verdict-end.ensures) c.put.ensures)
