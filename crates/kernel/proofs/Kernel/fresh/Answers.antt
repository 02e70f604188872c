-- `Kernel::fresh` is the encoding of the rules' fresh machine: both compute to the same tables. Assumes nothing.
use mathlib.Core.Path.{refl}
use Rattle.kernel.specs.View.{encode}
use Rattle.kernel.proofs.Kernel.fresh.Goals as goal

pub returns : goal.returns
unfolding encode
returns c = refl
