-- `draw` meets its contract: what is drawn, refused or not, and what is left of it. Assumes nothing.
use Rattle.image_calls.proofs.Cut.{asked_draw}
use Rattle.image_work.proofs.Exits.{draw_ends}
use Rattle.image_work.proofs.draw.Goals as goal

pub returns : goal.returns
returns c =
    let a = c.args in
    let drawn = asked_draw a.image.now a.seed.now a.span a.weights.now c.draw_on-d.ensures c.profile.ensures in
    draw_ends a.image.now a.seed.now a.span a.weights.now a.value.now drawn
    c.pack_drawn.ensures c.leave.ensures.0 c.leave.ensures.1
