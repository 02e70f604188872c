-- `report::put_named` meets its contract: one text behind another. Assumes nothing.
use native.Mathlib.Omega.{arith}
use Rattle.decimal.proofs.BothWays.{decimal_most}
use Rattle.report.proofs.Puts.{stands, then}
use Rattle.report.proofs.put_named.Goals as goal

pub returns : goal.returns
returns c =
    then c.put-next.ensures (stands (omega arith) (decimal_most c.args.n) c.put_decimal.ensures)
