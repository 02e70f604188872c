-- `draw_and_keep` meets its contract: what the draw with its step leaves is kept. Assumes nothing.
use mathlib.Core.Path.{◌∙◌}
use Rattle.image_work.proofs.Exits.{done_so, kept_so}
use Rattle.image_work.proofs.draw_and_keep.Goals as goal

pub returns : goal.returns
returns c =
    let image = c.args.image.now in
    let w = c.draw_step_on-carried.ensures in
    (done_so image w.1 c.keep-told.ensures.0, c.keep-told.ensures.1 ∙ kept_so image w.1 w.0)
