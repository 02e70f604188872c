-- `generator::draw` meets its contract: the state's tables are lent to the draw in place. Assumes nothing.
use Rattle.generator.proofs.draw.Goals as goal

pub returns : goal.returns
returns c = c.draw.ensures
