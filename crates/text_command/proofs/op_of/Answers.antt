-- `text_command::op_of` meets its contract: the words of the text are those of the definition, by computing. Assumes nothing.
use Rattle.text.specs.Words.{before, onward}
use Rattle.text.specs.Commands.{op_named}
use Rattle.text_command.specs.Method.{words_in}
use Rattle.text_command.proofs.op_of.Goals as goal

pub returns : goal.returns
unfolding op_named words_in before onward
returns c = c.number_among.ensures
