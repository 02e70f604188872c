-- `show_print::put_aged` meets its contract: one text behind another. Assumes nothing.
use Rattle.text_print.proofs.Puts.{then}
use Rattle.show_text.specs.Block.{entry_text}
use Rattle.show_print.proofs.put_aged.Goals as goal

pub returns : goal.returns
unfolding entry_text
returns c =
    then (then c.put_number-next.ensures c.put_small-end.ensures) c.put.ensures
