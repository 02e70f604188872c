-- What the check leaves of `put_bytes`.
use native.Mathlib.Nat.{add-zero}
use native.Mathlib.Omega.{arith}
use mathlib.Core.Path.{refl, sym, ◌∙◌}
use lib.ListN.{length-set}
use Rattle.text.proofs.Stores.{copied, all_copied}
use Rattle.text_print.proofs.put_bytes.Goals as goal

pub loop-i-init : goal.loop-i-init
loop-i-init c = (omega arith, refl, rw add-zero refl)

pub loop-i-preserved : goal.loop-i-preserved
loop-i-preserved c =
    let lp = c.loop-i in
    let a = c.args in
    (omega arith, simp length-set lp.invariant.1, copied lp.out a.at a.text.now lp.i c.loop-i-test.true ∙ lp.invariant.2)

pub returns : goal.returns
returns c =
    let lp = c.loop-i in
    let a = c.args in
    record { contents = sym (all_copied lp.out a.at a.text.now lp.i c.loop-i-test.false) ∙ lp.invariant.2; place = omega arith }
