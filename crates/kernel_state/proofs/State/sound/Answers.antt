-- `State::sound` meets its contract: the tables' test, and that of what is pending. Assumes nothing.
use mathlib.Core.Path.{sym}
use Rattle.kernel_state.proofs.Steps.{sound_parts}
use Rattle.kernel_state.proofs.State.sound.Goals as goal

pub returns : goal.returns
returns c =
    let a = c.args in
    rw (c.pending_sound.ensures, c.sound-tables.ensures) (sym (sound_parts a.self.kernel a.self.pending))
