-- `generator_checks::is_good` meets its contract, by what `are_small` ensures. Assumes nothing.
use Rattle.generator_checks.proofs.is_good.Goals as goal

pub returns : goal.returns
returns c = rw c.are_small.ensures
