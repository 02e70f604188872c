-- `numbers` meets its contract: two numbers for a stretch. Assumes nothing.
use Rattle.salvage_marks.specs.Torn.{cells}
use Rattle.salvaging.proofs.sinks.numbers.Goals as goal

pub returns-in-Some : goal.returns-in-Some
unfolding cells
returns-in-Some c = rw c.in-Some.is

pub returns-in-None : goal.returns-in-None
unfolding cells
returns-in-None c = rw c.in-None.is
