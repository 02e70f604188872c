-- `report::put_verdict` meets its contract: each verdict by its own text. Assumes nothing.
use native.Mathlib.Omega.{arith}
use Rattle.report.proofs.Puts.{then, wider}
use Rattle.report_text.specs.Report.{verdict_text}
use Rattle.report.proofs.put_verdict.Goals as goal

pub returns-in-Agrees : goal.returns-in-Agrees
unfolding verdict_text
returns-in-Agrees c = rw c.in-Agrees.is (wider 428 (omega arith) (then c.put_named-end.ensures c.put.ensures))

pub returns-in-Differs : goal.returns-in-Differs
unfolding verdict_text
returns-in-Differs c = rw c.in-Differs.is c.put_difference.ensures

pub returns-in-Refused : goal.returns-in-Refused
unfolding verdict_text
returns-in-Refused c = rw c.in-Refused.is (wider 428 (omega arith) c.put_refusal.ensures)
