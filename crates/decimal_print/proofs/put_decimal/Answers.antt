-- `decimal_print::put_decimal` meets its contract: refused where there is no room, else put. Assumes nothing.
use native.Mathlib.Omega.{arith}
use mathlib.Core.Path.{◌∙◌}
use Rattle.decimal.specs.Decimal.{decimal}
use Rattle.decimal.proofs.Stores.{put, refused}
use Rattle.decimal_print.proofs.put_decimal.Goals as goal

pub returns-then-out-lt20 : goal.returns-then-out-lt20
returns-then-out-lt20 c = let a = c.args in refused 20 a.out.now a.at (decimal a.n) (omega arith)

pub returns-then-out-at : goal.returns-then-out-at
returns-then-out-at c = let a = c.args in refused 20 a.out.now a.at (decimal a.n) (omega arith)

pub returns : goal.returns
returns c =
    let a = c.args in
    let w = c.put_number.ensures in
    let p = put 20 a.out.now a.at (decimal a.n) (omega arith) in
    (w.0 ∙ p.0, w.1 ∙ p.1)
