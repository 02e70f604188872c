-- `salvage_print::put_yes_no` meets its contract. Assumes nothing.
use native.Mathlib.Omega.{arith}
use Rattle.text.specs.Words.{bytes}
use Rattle.salvage_text.specs.Lines.{yes_no}
use Rattle.salvage_print.proofs.Behind.{stands}
use Rattle.salvage_print.proofs.put_yes_no.Goals as goal

pub returns-then-headed : goal.returns-then-headed
unfolding yes_no
returns-then-headed c =
    let a = c.args in
    rw c.if-headed.true (stands 4 a.out.now a.at (bytes "yes\n") (omega arith) c.put_text.ensures)

pub returns : goal.returns
unfolding yes_no
returns c =
    let a = c.args in
    rw c.if-headed.false (stands 3 a.out.now a.at (bytes "no\n") (omega arith) c.put_text-2.ensures)
