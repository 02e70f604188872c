-- `generator_lent::choice_if_needed` meets its contract: a number that is not needed spends one draw. Assumes nothing.
use borrow.Author.Tests.{eq-eqb, ne_eqb}
use Rattle.generator_lent.proofs.choice_if_needed.Goals as goal

pub returns-then-n-eq0 : goal.returns-then-n-eq0
returns-then-n-eq0 c = rw (c.xorshift.ensures, eq-eqb c.args.n 0 c.if-n-eq0.true)

pub returns-else-n-eq0 : goal.returns-else-n-eq0
returns-else-n-eq0 c = rw (c.choice_from.ensures, ne_eqb c.args.n 0 c.if-n-eq0.false)
