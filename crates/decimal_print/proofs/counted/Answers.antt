-- What the check leaves of `counted`.
use native.Mathlib.Omega.{arith}
use Rattle.decimal_print.proofs.Turns.{one_more}
use Rattle.decimal_print.proofs.counted.Goals as goal

pub loop-rest-init : goal.loop-rest-init
loop-rest-init c = omega arith

pub loop-rest-smaller : goal.loop-rest-smaller
loop-rest-smaller c = omega arith

pub loop-rest-preserved : goal.loop-rest-preserved
loop-rest-preserved c =
    let lp = c.loop-rest in
    let a = c.args in
    one_more a.n a.power lp.digit lp.rest c.requires lp.invariant.0 c.loop-rest-test.true

pub returns : goal.returns
returns c = omega arith
