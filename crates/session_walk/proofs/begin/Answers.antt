-- `session_walk::begin` meets its contract. Assumes nothing.
use Rattle.session_walk_text.specs.Walk.{at_first}
use Rattle.session_walk.proofs.begin.Goals as goal

pub returns : goal.returns
unfolding at_first
returns c = rw (c.fresh.ensures, c.held_none.ensures)
