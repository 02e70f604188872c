-- `decimal_print::put_number` meets its contract: a number below ten is its own digit; any other has as many digits as its width says. That the table is
-- `powers_of_ten` is computed here, over the whole table (width-k-requires). Assumes nothing.
use native.Mathlib.Omega.{arith}
use mathlib.Core.Path.{refl}
use Rattle.decimal_print.proofs.Turns.{own_digit, all_digits, width_between, wide_enough}
use Rattle.decimal_print.proofs.put_number.Goals as goal

pub returns-then-n-lt10 : goal.returns-then-n-lt10
returns-then-n-lt10 c =
    let a = c.args in
    own_digit a.out.now a.at a.n c.if-n-lt10.true

pub returns-then-n-lt100 : goal.returns-then-n-lt100
returns-then-n-lt100 c =
    let a = c.args in
    all_digits a.out.now a.at 2 a.n _ (width_between 1 a.n (omega arith) (omega arith) (omega arith)) c.put_two.ensures

pub returns-then-n-lt1000 : goal.returns-then-n-lt1000
returns-then-n-lt1000 c =
    let a = c.args in
    all_digits a.out.now a.at 3 a.n _ (width_between 2 a.n (omega arith) (omega arith) (omega arith)) c.put_three.ensures

pub width-k-requires : goal.width-k-requires
width-k-requires c = refl

pub put_digits-requires : goal.put_digits-requires
put_digits-requires c =
    let a = c.args in
    let w = c.width-k.ensures in
    (refl, omega arith, omega (arith, wide_enough 20 3 a.n (omega arith) (omega arith)), w.1, w.2)

pub returns : goal.returns
returns c =
    let a = c.args in
    let w = c.width-k in
    all_digits a.out.now a.at w.result a.n _ w.ensures.0 c.put_digits.ensures
