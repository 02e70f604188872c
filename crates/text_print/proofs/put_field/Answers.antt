-- `text_print::put_field` meets its contract: the decimal, for which there is room, and one store more. Assumes nothing.
use native.Mathlib.Omega.{arith}
use Rattle.text.proofs.Stores.{decimal_within, field_written}
use Rattle.text_print.proofs.put_field.Goals as goal

pub bounds-out-next : goal.bounds-out-next
bounds-out-next c =
    let e = c in
    let a = e.args in
    let p = c.put_decimal-next in
    omega (arith, decimal_within a.out.now a.at a.n p.result p.new.out e.requires p.ensures.0 p.ensures.1)

pub overflow_add-result : goal.overflow_add-result
overflow_add-result c =
    let e = c in
    let a = e.args in
    let p = c.put_decimal-next in
    omega (arith, decimal_within a.out.now a.at a.n p.result p.new.out e.requires p.ensures.0 p.ensures.1)

pub returns : goal.returns
returns c =
    let e = c in
    let a = e.args in
    let p = c.put_decimal-next in (
      field_written a.out.now a.at a.n p.result p.new.out e.requires p.ensures.0 p.ensures.1 a.end,
      omega
          (arith, decimal_within a.out.now a.at a.n p.result p.new.out e.requires p.ensures.0 p.ensures.1),
    )
