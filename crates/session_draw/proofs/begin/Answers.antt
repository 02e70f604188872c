-- `session_draw::begin` meets its contract. Assumes nothing.
use Rattle.session_draw.specs.Draw.{at_first}
use Rattle.session_draw.proofs.begin.Goals as goal

pub returns : goal.returns
unfolding at_first
returns c = rw (c.fresh.ensures, c.held_none.ensures)
