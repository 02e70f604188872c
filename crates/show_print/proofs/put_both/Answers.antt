-- `show_print::put_both` meets its contract: one text behind another. Assumes nothing.
use native.Mathlib.Omega.{arith}
use Rattle.text_print.proofs.Puts.{then, wider}
use Rattle.show_text.specs.Block.{show_room}
use Rattle.show_print.proofs.put_both.Goals as goal

pub returns : goal.returns
returns c = wider show_room (omega arith) (then c.put_row-next.ensures c.put_block.ensures)
