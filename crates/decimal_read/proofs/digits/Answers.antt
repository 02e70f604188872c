-- What the check leaves of `digits`.
use native.Mathlib.Omega.{arith}
use mathlib.Core.Path.{sym, ◌∙◌}
use lib.ListN.{get_or}
use Rattle.decimal_read.proofs.Turns.{turn_none, turn_large, turn_digit, turn_end, digit_low}
use Rattle.decimal_read.proofs.digits.Goals as goal

pub returns-then-not-is_digit : goal.returns-then-not-is_digit
returns-then-not-is_digit c =
    let lp = c.loop-i in
    let w = c.args.word.now in
    turn_none w lp.i lp.value c.loop-i-test.true (sym c.is_digit.ensures ∙ c.if-not-is_digit.true)
    ∙ lp.invariant.2

pub overflow_sub-d : goal.overflow_sub-d
overflow_sub-d c =
    let b = c.loop-i in
    omega (
      arith,
      digit_low (get_or c.args.word.now b.i 0)
          (sym c.is_digit.ensures ∙ c.if-not-is_digit.false),
    )

pub returns-then-value-gt1844674407370955161 : goal.returns-then-value-gt1844674407370955161
returns-then-value-gt1844674407370955161 c =
    let lp = c.loop-i in
    let w = c.args.word.now in
    turn_large w lp.i lp.value c.loop-i-test.true (omega arith) ∙ lp.invariant.2

pub returns-then-d-value : goal.returns-then-d-value
returns-then-d-value c =
    let lp = c.loop-i in
    let w = c.args.word.now in
    turn_large w lp.i lp.value c.loop-i-test.true (omega arith) ∙ lp.invariant.2

pub loop-i-preserved : goal.loop-i-preserved
loop-i-preserved c =
    let lp = c.loop-i in
    let w = c.args.word.now in (
      omega arith,
      omega arith,
      rw c.wide-d.ensures.0
          (turn_digit w lp.i lp.value c.loop-i-test.true
          (sym c.is_digit.ensures ∙ c.if-not-is_digit.false) ∙ lp.invariant.2),
    )

pub returns : goal.returns
returns c =
    let lp = c.loop-i in
    let w = c.args.word.now in
    turn_end w lp.i lp.value c.loop-i-test.false lp.invariant.1 ∙ lp.invariant.2
