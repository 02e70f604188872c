-- `decimal_print::put_two` meets its contract: the tens are counted, and what is left is the last digit. Assumes nothing.
use native.Mathlib.Omega.{arith}
use lib.ListN.{length-set}
use Rattle.decimal_print.proofs.Turns.{two_stored}
use Rattle.decimal_print.proofs.put_two.Goals as goal

pub bounds-out-at-2 : goal.bounds-out-at-2
bounds-out-at-2 c = simp length-set (omega arith)

pub returns : goal.returns
returns c =
    let d = c.counted_evenly-c in
    let a = c.args in
    two_stored a.out.now a.at a.n d.result.digit d.result.rest d.ensures.0 d.ensures.1 d.ensures.2
