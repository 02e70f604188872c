-- `Judge::fresh` meets its contract. Assumes nothing.
use Rattle.judging.specs.Pieces.{at_first}
use Rattle.judging.proofs.Judge.fresh.Goals as goal

pub returns : goal.returns
unfolding at_first
returns c = rw c.fresh-kernel.ensures
