-- What the check leaves of `counted_evenly`.
use native.Mathlib.Omega.{arith}
use Rattle.decimal_print.proofs.Turns.{taken_off, left_on, nine_times}
use Rattle.decimal_print.proofs.counted_evenly.Goals as goal
use Rattle.decimal_print.proofs.counted_evenly.Goals.{then-power-rest, else-power-rest}

pub loop-turns-init : goal.loop-turns-init
loop-turns-init c = (omega arith, omega arith, omega arith, omega arith)

pub loop-turns-preserved : goal.loop-turns-preserved
loop-turns-preserved c =
    let lp = c.loop-turns in
    let a = c.args in
    let t = c.loop-turns-test.true in
    elim c.if-power-rest.branch [ then-power-rest w ↦ rw (w.rest-is, w.digit-is) (taken_off a.n a.power lp.rest lp.digit lp.turns lp.invariant t w.if-power-rest.true) | else-power-rest w ↦ rw (w.rest-is, w.digit-is) (left_on a.n a.power lp.rest lp.digit lp.turns lp.invariant t w.if-power-rest.false) ]

pub returns : goal.returns
returns c =
    let lp = c.loop-turns in
    let a = c.args in
    nine_times a.n a.power lp.rest lp.digit lp.turns lp.invariant c.loop-turns-test.false
