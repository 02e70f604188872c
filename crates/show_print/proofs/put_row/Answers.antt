-- `show_print::put_row` meets its contract: there is room for the row. Assumes nothing.
use Rattle.text.proofs.Bounds.{walk_short}
use Rattle.text_print.proofs.Puts.{stands}
use Rattle.show_print.proofs.put_row.Goals as goal

pub returns : goal.returns
returns c = stands 128 128 c.requires (walk_short c.args.row) c.put_walk_line.ensures
