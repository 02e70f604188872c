-- `report::put_operand` meets its contract: a blank and a decimal, or nothing. Assumes nothing.
use Rattle.report.proofs.Puts.{none}
use Rattle.report.proofs.put_operand.Goals as goal

pub returns-then-used : goal.returns-then-used
returns-then-used c = rw c.if-used.true c.put_named.ensures

pub returns : goal.returns
returns c = let a = c.args in rw c.if-used.false (none 21 a.out.now a.at)
