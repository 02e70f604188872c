-- `session_stage::not_moved` meets its contract. Assumes nothing.
use Rattle.session_stage.specs.Stage.{not_moved}
use Rattle.session_stage.proofs.not_moved.Goals as goal

pub returns : goal.returns
unfolding not_moved
returns c k = rw c.zeros.ensures
