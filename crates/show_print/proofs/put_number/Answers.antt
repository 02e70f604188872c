-- `show_print::put_number` meets its contract: one text behind another. Assumes nothing.
use native.Mathlib.Omega.{arith}
use Rattle.decimal.proofs.BothWays.{decimal_most}
use Rattle.text_print.proofs.Puts.{stands, then}
use Rattle.show_print.proofs.put_number.Goals as goal

pub returns : goal.returns
returns c =
    then c.put-next.ensures (stands 20 20 (omega arith) (decimal_most c.args.n) c.put_decimal.ensures)
