-- `show_print::put_level` meets its contract: one text behind another. Assumes nothing.
use Rattle.text_print.proofs.Puts.{then}
use Rattle.show_print.proofs.put_level.Goals as goal

pub returns : goal.returns
returns c = then c.put_small-next.ensures c.put_small.ensures
