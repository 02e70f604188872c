-- `State::wakes_left` meets its contract. Assumes nothing.
use mathlib.Core.Path.{sym, ◌∙◌}
use Rattle.kernel_state.proofs.Steps.{left_unsound, left_sound}
use Rattle.kernel_state.proofs.State.wakes_left.Goals as goal

pub returns-then-not-pending_sound : goal.returns-then-not-pending_sound
returns-then-not-pending_sound c =
    let a = c.args in
    rw c.number.ensures (left_unsound a.self.kernel a.self.pending a.t.0 (sym c.pending_sound.ensures ∙ c.if-not-pending_sound.true))

pub returns : goal.returns
returns c =
    let a = c.args in
    c.wakes_left.ensures ∙ left_sound a.self.kernel a.self.pending a.t.0 (sym c.pending_sound.ensures ∙ c.if-not-pending_sound.false)
