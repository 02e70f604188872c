-- `step` is that of the tables, which are lent to it: what it leaves in them is the state. Assumes nothing.
use mathlib.Core.Path.{refl}
use Rattle.kernel.proofs.in_place.step.Goals as goal

pub returns : goal.returns
returns c = rw (c.step.ensures.0, c.step.ensures.1) (refl, refl)
