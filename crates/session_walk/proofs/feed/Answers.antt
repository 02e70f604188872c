-- `session_walk::feed` meets its contract: the tables are lent to `walk_through`, and what it leaves in them is the state behind the piece. Assumes nothing.
use Rattle.session_walk.proofs.feed.Goals as goal

pub returns : goal.returns
returns c = let t = c.walk_through-t.ensures in rw c.behind.ensures t
