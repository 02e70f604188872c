-- `generator_lent::xorshift` meets its contract: code and definition compute to one another. Assumes nothing.
use Rattle.generator_draws.specs.Xorshift.{draw}
use borrow.Author.Rules.{rules}
use Rattle.generator_lent.proofs.xorshift.Goals as goal

pub returns : goal.returns
unfolding draw
returns c = search rules
