-- `draw_even` meets its contract: what is drawn, refused or not, and what is left of it. Assumes nothing.
use Rattle.image_calls.proofs.Cut.{asked_draw_evenly}
use Rattle.image_work.proofs.Exits.{draw_even_ends}
use Rattle.image_work.proofs.draw_even.Goals as goal

pub returns : goal.returns
returns c =
    let a = c.args in
    let fits = c.profile.ensures in
    let drawn = asked_draw_evenly a.image.now a.seed.now a.span a.weights.now c.draw_even_on-d.ensures fits in
    draw_even_ends a.image.now a.seed.now a.span a.weights.now a.value.now drawn c.bare.ensures
    c.pack_even.ensures c.leave.ensures.0 c.leave.ensures.1
