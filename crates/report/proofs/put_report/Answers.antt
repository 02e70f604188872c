-- `report::put_report` meets its contract: refused where there is no room, else put. Assumes nothing.
use native.Mathlib.Omega.{arith}
use Rattle.decimal.proofs.Stores.{refused}
use Rattle.text.proofs.Stores.{written}
use Rattle.report_text.specs.Report.{report_text, report_room}
use Rattle.report.proofs.put_report.Goals as goal

pub returns-then-out-lt512 : goal.returns-then-out-lt512
returns-then-out-lt512 c = let a = c.args in refused report_room a.out.now 0 (report_text a.j) (omega arith)

pub returns : goal.returns
returns c =
    let a = c.args in let p = c.put_lines in
    written report_room a.out.now 0 (report_text a.j) p.new.out p.result (omega arith) p.ensures.written
