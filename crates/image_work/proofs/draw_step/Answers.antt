-- `draw_step` meets its contract: what is drawn and its step, refused or not, and what is left of them. Assumes nothing.
use Rattle.image_work.proofs.Exits.{draw_step_ends}
use Rattle.image_work.proofs.draw_step.Goals as goal

pub returns : goal.returns
returns c =
    let a = c.args in
    let w = c.draw_and_keep-done.ensures in
    draw_step_ends a.image.now _ a.seed.now a.span a.weights.now a.value.now c.profile.ensures w.0 w.1
    c.pack_both.ensures c.leave.ensures.0 c.leave.ensures.1
