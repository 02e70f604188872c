-- `put_at` meets its contract: what stood at the place and behind it is one place further back. Past the end nothing is placed. Assumes nothing.
use Rattle.kernel_line.proofs.Laws.{placed, insert_out}
use Rattle.kernel_place.proofs.put_at.Goals as goal

pub returns-then-at-lt32 : goal.returns-then-at-lt32
returns-then-at-lt32 c =
    let a = c.args in
    rw c.copy_within.ensures.after (placed a.line.now a.at a.t.0 c.told-line c.if-at-lt32.true)

pub returns-else-at-lt32 : goal.returns-else-at-lt32
returns-else-at-lt32 c = let a = c.args in insert_out a.line.now a.at a.t.0 c.told-line c.if-at-lt32.false
