-- `show_print::put_flags` meets its contract: one text behind another. Assumes nothing.
use Rattle.text_print.proofs.Puts.{then}
use Rattle.show_text.specs.Block.{flags_text}
use Rattle.show_print.proofs.put_flags.Goals as goal

pub returns : goal.returns
unfolding flags_text
returns c =
    then (then (rw c.flag.ensures at c.put_small-next.ensures) (rw c.flag-2.ensures at c.put_small-end.ensures))
    c.put.ensures
