-- What the check leaves of `same_bytes`.
use native.Mathlib.Omega.{arith}
use mathlib.Core.Path.{refl, ◌∙◌}
use Rattle.text.proofs.Scan.{differ_in_length, same_here, differ_here, same_all}
use Rattle.text_word.proofs.same_bytes.Goals as goal

pub returns-then-a-b : goal.returns-then-a-b
returns-then-a-b c = differ_in_length c.args.a.now c.args.b.now c.if-a-b.true

pub loop-i-init : goal.loop-i-init
loop-i-init c = (omega arith, c.if-a-b.false, refl)

pub returns-then-a-i : goal.returns-then-a-i
returns-then-a-i c =
    let a = c.args.a.now in
    let b = c.args.b.now in
    let lp = c.loop-i in
    differ_here a b lp.i c.loop-i-test.true (omega arith) c.if-a-i.true ∙ lp.invariant.2

pub loop-i-preserved : goal.loop-i-preserved
loop-i-preserved c =
    let a = c.args.a.now in
    let b = c.args.b.now in
    let lp = c.loop-i in
    (omega arith, lp.invariant.1, same_here a b lp.i c.loop-i-test.true (omega arith) c.if-a-i.false ∙ lp.invariant.2)

pub returns : goal.returns
returns c =
    let a = c.args.a.now in
    let b = c.args.b.now in
    let lp = c.loop-i in
    same_all a b lp.i c.loop-i-test.false (omega arith) ∙ lp.invariant.2
