-- `text_print::draw_fields` meets its contract: one text behind another. Assumes nothing.
use Rattle.text.specs.Printed.{draw_line}
use Rattle.text.proofs.Stores.{and_then}
use Rattle.text_print.proofs.draw_fields.Goals as goal

pub returns : goal.returns
unfolding draw_line
returns c =
    let answer = c in
    let value = answer in
    let third = value in
    let second = third in
    let first = second in
    let number = first in
    let said = and_then (and_then (and_then number.put_field-op.ensures.0 first.put_small-a.ensures.0) second.put_small-b.ensures.0)
    third.put_small-value.ensures.0 in
    and_then (and_then said value.put_field-code.ensures.0) answer.answer_fields.ensures
