-- `session_stage::over_with` meets its contract. Assumes nothing.
use Rattle.session_stage.specs.Stage.{over_with}
use Rattle.session_stage.proofs.over_with.Goals as goal

pub returns : goal.returns
unfolding over_with
returns c k = rw c.zeros.ensures
