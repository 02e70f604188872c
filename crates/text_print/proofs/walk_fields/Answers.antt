-- `text_print::walk_fields` meets its contract: one text behind another. Assumes nothing.
use Rattle.text.specs.Printed.{walk_line}
use Rattle.text.proofs.Stores.{and_then}
use Rattle.text_print.proofs.walk_fields.Goals as goal

pub returns : goal.returns
unfolding walk_line
returns c =
    and_then (and_then c.put_field-op.ensures.0
    c.put_small-code.ensures.0) c.answer_fields.ensures
