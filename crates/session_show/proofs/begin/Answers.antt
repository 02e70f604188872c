-- `session_show::begin` meets its contract. Assumes nothing.
use Rattle.show_text.specs.Show.{at_first}
use Rattle.session_show.proofs.begin.Goals as goal

pub returns : goal.returns
unfolding at_first
returns c = rw (c.fresh.ensures, c.none.ensures, c.held_none.ensures)
