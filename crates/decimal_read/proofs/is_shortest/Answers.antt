-- `decimal_read::is_shortest` meets its contract: by the word's length, 0, 1 or more. Assumes nothing.
use Rattle.decimal_read.proofs.Turns.{shortest_none, shortest_one, shortest_more}
use Rattle.decimal_read.proofs.is_shortest.Goals as goal

pub returns-then-word-eq0 : goal.returns-then-word-eq0
returns-then-word-eq0 c = shortest_none c.args.word.now c.if-word-eq0.true

pub returns-then-word-eq1 : goal.returns-then-word-eq1
returns-then-word-eq1 c = shortest_one c.args.word.now c.if-word-eq1.true

pub returns : goal.returns
returns c = shortest_more c.args.word.now c.if-word-eq0.false c.if-word-eq1.false
