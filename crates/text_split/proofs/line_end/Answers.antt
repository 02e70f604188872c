-- `text_split::line_end` meets its contract. Assumes nothing.
use Rattle.text.specs.Lines.{end_from}
use Rattle.text_split.proofs.line_end.Goals as goal

pub returns : goal.returns
unfolding end_from
returns c = c.find.ensures
