-- `decimal_read::number` meets its contract: digits without needless zeros, of a number up to `most`. Assumes nothing.
use Rattle.decimal_read.proofs.Turns.{number_law}
use Rattle.decimal_read.proofs.number.Goals as goal

pub returns-then-is_shortest-valid : goal.returns-then-is_shortest-valid
returns-then-is_shortest-valid c =
    let w = c.args.word.now in
    let m = c.args.most in
    rw c.if-is_shortest-valid.true at (number_law w m c.is_shortest.result c.digits-r.result
    c.ranges.most.fits c.is_shortest.ensures c.digits-r.ensures)

pub returns : goal.returns
returns c =
    let w = c.args.word.now in
    let m = c.args.most in
    rw c.if-is_shortest-valid.false at (number_law w m c.is_shortest.result c.digits-r.result
    c.ranges.most.fits c.is_shortest.ensures c.digits-r.ensures)
