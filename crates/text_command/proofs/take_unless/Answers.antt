-- `text_command::take_unless` meets its contract: the operand, in use where the line goes on. Assumes nothing.
use Rattle.text_command.proofs.Reading.{unless_read}
use Rattle.text_command.proofs.take_unless.Goals as goal

pub returns : goal.returns
returns c =
    let t = c in
    let a = t.args in
    unless_read a.line.now a.at a.most a.omits a.used t.take_operand-p.result t.take_operand-p.ensures
