-- What the check leaves of `find`.
use native.Mathlib.Omega.{arith}
use mathlib.Core.Path.{refl, ◌∙◌}
use Rattle.text.proofs.Scan.{found, passed, not_found}
use Rattle.text_word.proofs.find.Goals as goal

pub loop-i-init : goal.loop-i-init
loop-i-init c = refl

pub returns-then-s-i : goal.returns-then-s-i
returns-then-s-i c =
    let a = c.args in
    let s = a.s.now in
    let lp = c.loop-i in
    omega (arith, lp.invariant, found a.stop s lp.i c.loop-i-test.true c.if-s-i.true)

pub loop-i-preserved : goal.loop-i-preserved
loop-i-preserved c =
    let a = c.args in
    let lp = c.loop-i in
    passed a.stop a.s.now lp.i c.loop-i-test.true c.if-s-i.false ∙ lp.invariant

pub returns : goal.returns
returns c =
    let a = c.args in
    let s = a.s.now in
    let lp = c.loop-i in
    omega (arith, lp.invariant, not_found a.stop s lp.i c.loop-i-test.false)
