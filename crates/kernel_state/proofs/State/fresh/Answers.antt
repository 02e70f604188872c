-- `State::fresh` meets its contract. Assumes nothing.
use Rattle.kernel_state.specs.Public.{encode}
use Rattle.kernel_state.proofs.State.fresh.Goals as goal

pub returns : goal.returns
unfolding encode
returns c = rw c.fresh.ensures
