-- `bits::has` meets its contract: a number of 32 bits has none above them. Assumes nothing.
use mathlib.Core.Path.{refl}
use Rattle.kernel_state.proofs.Laws.{none_above}
use Rattle.kernel_state.proofs.bits.has.Goals as goal

pub returns-then-t-gt31 : goal.returns-then-t-gt31
returns-then-t-gt31 c = none_above c.args.pending c.args.t c.ranges.pending.fits c.if-t-gt31.true

pub returns : goal.returns
returns c = refl
