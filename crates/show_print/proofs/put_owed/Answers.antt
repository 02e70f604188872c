-- `show_print::put_owed` meets its contract: a number, or nothing. Assumes nothing.
use Rattle.text_print.proofs.Puts.{none}
use Rattle.show_print.proofs.put_owed.Goals as goal

pub returns-then-owed : goal.returns-then-owed
returns-then-owed c = rw c.if-owed.true c.put_small.ensures

pub returns : goal.returns
returns c = let a = c.args in rw c.if-owed.false (none 4 a.out.now a.at)
