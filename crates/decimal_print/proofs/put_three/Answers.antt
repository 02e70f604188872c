-- `decimal_print::put_three` meets its contract: the hundreds are counted, and what is left has two digits. Assumes nothing.
use native.Mathlib.Omega.{arith}
use mathlib.Core.Path.{◌∙◌}
use lib.ListN.{length-set}
use Rattle.decimal_print.proofs.Turns.{digit_turn}
use Rattle.decimal_print.proofs.put_three.Goals as goal

pub put_two-requires : goal.put_two-requires
put_two-requires c = (simp length-set (omega arith), c.counted_evenly-c.ensures.1)

pub returns : goal.returns
returns c =
    let d = c.counted_evenly-c in
    let a = c.args in
    c.put_two.ensures
    ∙ digit_turn a.out.now a.at 3 a.n d.result.digit d.result.rest (omega arith) d.ensures.0 d.ensures.1 d.ensures.2
