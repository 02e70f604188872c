-- `session_stage::opened` meets its contract: refused, or setup begins. Assumes nothing.
use borrow.Author.Tests.{eq-eqb, ne_eqb}
use Rattle.session_stage.specs.Stage.{opened}
use Rattle.session_stage.proofs.opened.Goals as goal

pub returns-then-f-ne0 : goal.returns-then-f-ne0
unfolding opened
returns-then-f-ne0 c k = rw (ne_eqb c.args.f.code 0 c.if-f-ne0.true) (c.over_with.ensures k)

pub returns : goal.returns
unfolding opened
returns c k = rw (eq-eqb c.args.f.code 0 c.if-f-ne0.false, c.zeros.ensures)
