-- `salvage_print::put_stretch` meets its contract: one text behind another. Assumes nothing.
use native.Mathlib.Omega.{arith}
use lib.ListN.{length-append}
use Rattle.decimal.specs.Decimal.{decimal}
use Rattle.decimal.proofs.BothWays.{decimal_most}
use Rattle.text.specs.Words.{bytes}
use Rattle.salvage_text.specs.Lines.{stretch_text}
use Rattle.salvage_print.proofs.Behind.{stands, then_put}
use Rattle.salvage_print.proofs.put_stretch.Goals as goal

pub returns : goal.returns
unfolding stretch_text
returns c =
    let a = c.args in
    let n = decimal_most a.first in
    let m = decimal_most a.size in
    let w1 = stands 20 a.out.now a.at (bytes "dropped: first byte ") (omega arith) c.put_text-byte.ensures in
    let w2 = then_put 20 (decimal a.first) w1 (omega arith) c.put_decimal-comma.ensures in
    let w3 = then_put 9 (bytes ", length ") w2 (simp length-append (omega (arith, n))) c.put_text-length.ensures in
    let w4 = then_put 20 (decimal a.size) w3 (simp length-append (omega (arith, n))) c.put_decimal-end.ensures in
    then_put 1 (bytes "\n") w4 (simp length-append (omega (arith, n, m))) c.put_text.ensures
