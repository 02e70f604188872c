-- `show_print::put_cell` meets its contract: a cell that is in use, or nothing. Assumes nothing.
use borrow.Author.Tests.{eq-eqb, ne_eqb}
use Rattle.text_print.proofs.Puts.{none, then}
use Rattle.show_print.proofs.put_cell.Goals as goal

pub returns-then-age-eq0 : goal.returns-then-age-eq0
returns-then-age-eq0 c = let a = c.args in rw (eq-eqb a.age 0 c.if-age-eq0.true) (none 50 a.out.now a.at)

pub returns : goal.returns
returns c =
    rw (ne_eqb c.args.age 0 c.if-age-eq0.false) (then c.put_small-next.ensures c.put_aged.ensures)
