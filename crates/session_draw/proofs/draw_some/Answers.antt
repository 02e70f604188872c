-- `session_draw::draw_some` meets its contract: the tables are lent to `draw_through`, and what it leaves in them is the state behind the draws. Assumes
-- nothing.
use Rattle.session_draw.proofs.draw_some.Goals as goal

pub returns : goal.returns
returns c = let t = c in rw c.printed_of.ensures (rw t.course_of.ensures at t.draw_through-t.ensures)
