-- `show_print::put_waiter` meets its contract: a number, or nothing. Assumes nothing.
use mathlib.Core.List.{append-nil}
use borrow.Author.Tests.{eq-eqb, ne_eqb}
use Rattle.text_print.proofs.Puts.{none}
use Rattle.show_text.specs.Block.{numbers_text}
use Rattle.show_print.proofs.put_waiter.Goals as goal

pub returns-then-t-eq0 : goal.returns-then-t-eq0
unfolding numbers_text
returns-then-t-eq0 c = let a = c.args in rw (eq-eqb a.t 0 c.if-t-eq0.true) (none 4 a.out.now a.at)

pub returns : goal.returns
unfolding numbers_text
returns c = rw (ne_eqb c.args.t 0 c.if-t-eq0.false, append-nil) c.put_small.ensures
