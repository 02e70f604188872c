-- What the check leaves of `next_eight`.
use native.Mathlib.Omega.{arith}
use lib.ListN.{drop}
use Rattle.text.specs.FirstLine.{word_most}
use Rattle.text_first.proofs.Opening.{none_filled, one_filled, all_filled, value_bound}
use Rattle.text_first.proofs.next_eight.Goals as goal

pub loop-i-init : goal.loop-i-init
loop-i-init c = none_filled c.args.line.now c.args.at c.requires

pub overflow_cast-values : goal.overflow_cast-values
overflow_cast-values c =
    let lp = c.loop-i in
    let s = c.args.line.now in
    omega (arith, value_bound s c.next_decimal-x.result word_most (drop lp.next s) c.next_decimal-x.ensures)

pub loop-i-preserved : goal.loop-i-preserved
loop-i-preserved c =
    let a = c.args in
    let lp = c.loop-i in
    one_filled a.line.now a.at lp.valid lp.values lp.next lp.i c.next_decimal-x.result
    c.loop-i-test.true lp.invariant c.next_decimal-x.ensures

pub returns : goal.returns
returns c =
    let a = c.args in
    let lp = c.loop-i in
    all_filled a.line.now a.at lp.valid lp.values lp.next lp.i c.loop-i-test.false lp.invariant
