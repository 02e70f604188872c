-- `generator_checks::refusal` meets its contract, by what its callees ensure. Assumes nothing.
use Rattle.generator_checks.proofs.refusal.Goals as goal

pub returns : goal.returns
returns c = rw (c.choose-3.ensures, c.choose-2.ensures, c.choose.ensures, c.is_good-good.ensures)
