-- `show_print::put_places` meets its contract: one text behind another. Assumes nothing.
use Rattle.text_print.proofs.Puts.{then}
use Rattle.show_print.proofs.put_places.Goals as goal

pub returns : goal.returns
returns c =
    then (then (then c.put_small-first.ensures c.put_small-second.ensures) c.put_small-third.ensures) c.put_small.ensures
