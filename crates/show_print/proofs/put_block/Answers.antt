-- `show_print::put_block` meets its contract: one text behind another. Assumes nothing.
use Rattle.kernel.specs.View.{view}
use Rattle.text_print.proofs.Puts.{then}
use Rattle.show_text.specs.Block.{block}
use Rattle.show_print.proofs.put_block.Goals as goal

pub returns : goal.returns
unfolding block view
returns c =
    then (then (then (then c.put_machine-owed.ensures c.put_pending-objects.ensures) c.put_objects-registers.ensures) c.put_registers-table.ensures)
    c.put_table.ensures
