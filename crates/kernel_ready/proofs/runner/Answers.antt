-- `runner` meets its contract: the first cell. Assumes nothing.
use mathlib.Core.Path.{refl}
use Rattle.kernel_ready.specs.Ready.{runner_in}
use Rattle.kernel_ready.proofs.runner.Goals as goal

pub returns : goal.returns
unfolding runner_in
returns c = refl
