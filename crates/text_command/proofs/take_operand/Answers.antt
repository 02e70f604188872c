-- `text_command::take_operand` meets its contract: the operand is in use, or not. Assumes nothing.
use Rattle.text_command.proofs.Reading.{in_use, not_in_use}
use Rattle.text_command.proofs.take_operand.Goals as goal

pub returns-then-used : goal.returns-then-used
returns-then-used c =
    let a = c.args in
    in_use a.line.now a.at a.most a.used c.next_decimal.result c.if-used.true c.next_decimal.ensures

pub returns : goal.returns
returns c = let a = c.args in not_in_use a.line.now a.at a.most a.used c.if-used.false c.requires
