-- `report::put_line` meets its contract: one text behind another. Assumes nothing.
use Rattle.report.proofs.Puts.{then}
use Rattle.text.specs.Commands.{line_of}
use Rattle.report.proofs.put_line.Goals as goal

pub returns : goal.returns
unfolding line_of
returns c =
    then c.put_word-a.ensures
    (then (rw c.writes_a.ensures at c.put_operand-b.ensures)
    (then (rw c.takes_b.ensures at c.put_operand-value.ensures)
    (rw c.takes_value.ensures at c.put_operand.ensures)))
