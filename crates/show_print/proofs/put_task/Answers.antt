-- `show_print::put_task` meets its contract: a task and its base, or nothing. Assumes nothing.
use borrow.Author.Tests.{eq-eqb, ne_eqb}
use Rattle.text_print.proofs.Puts.{none}
use Rattle.show_print.proofs.put_task.Goals as goal

pub returns-then-base-eq0 : goal.returns-then-base-eq0
returns-then-base-eq0 c = let a = c.args in rw (eq-eqb a.base 0 c.if-base-eq0.true) (none 8 a.out.now a.at)

pub returns : goal.returns
returns c = rw (ne_eqb c.args.base 0 c.if-base-eq0.false) c.put_level.ensures
