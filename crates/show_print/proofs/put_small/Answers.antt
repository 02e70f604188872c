-- `show_print::put_small` meets its contract: one text behind another. A byte has at most three digits. Assumes nothing.
use Prim.Native.Nat.{◌<◌, ◌^◌}
use native.Mathlib.Omega.{arith}
use Rattle.decimal.proofs.BothWays.{digits_most}
use Rattle.text_print.proofs.Puts.{stands, then}
use Rattle.show_print.proofs.put_small.Goals as goal

pub returns : goal.returns
returns c =
    let byte : c.args.n < 10 ^ 3 = omega arith in
    then c.put-next.ensures (stands 20 3 (omega arith) (digits_most c.args.n 2 byte) c.put_decimal.ensures)
