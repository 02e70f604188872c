-- `text_print::answer_fields` meets its contract: one text behind another. Assumes nothing.
use Rattle.text.specs.Printed.{answer_fields}
use Rattle.text.proofs.Stores.{and_then}
use Rattle.text_print.proofs.answer_fields.Goals as goal

pub returns : goal.returns
unfolding answer_fields
returns c =
    let last = c in
    let third = last in
    let second = third in
    let first = second in
    and_then (and_then (and_then first.put_small-running.ensures.0 second.put_small-released.ensures.0) third.put_small-clock.ensures.0) last.put_field.ensures.0
