-- `show_print::put_registers` meets its contract: one text behind another. Assumes nothing.
use Rattle.text_print.proofs.Puts.{then}
use Rattle.show_text.specs.Block.{registers_text}
use Rattle.show_print.proofs.put_registers.Goals as goal

pub returns : goal.returns
unfolding registers_text
returns c = then c.put_small-next.ensures c.put_aged.ensures
