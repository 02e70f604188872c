-- `session_draw::feed` meets its contract: the tables are lent to `hear_through`, and what it leaves in them is the state behind the piece. Assumes nothing.
use Rattle.session_draw.proofs.feed.Goals as goal

pub returns : goal.returns
returns c = let t = c in rw c.behind.ensures (rw t.course_of.ensures at t.take_lines-t.ensures)
