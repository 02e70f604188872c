-- `show_print::put_line` meets its contract: one text behind another. Assumes nothing.
use Rattle.text_print.proofs.Puts.{then}
use Rattle.show_text.specs.Block.{object_line}
use Rattle.show_print.proofs.put_line.Goals as goal

pub returns : goal.returns
unfolding object_line
returns c =
    then (then (then c.put_places-word.ensures c.put-next.ensures) c.put_waiter-end.ensures) c.put.ensures
