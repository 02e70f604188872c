-- `step_and_keep` meets its contract: what the step leaves, in one number and laid out. Assumes nothing.
use mathlib.Core.Path.{◌∙◌}
use Rattle.kernel.specs.Public.{to_rules}
use Rattle.image_work.proofs.Exits.{step_ends}
use Rattle.image_work.proofs.step_and_keep.Goals as goal

pub returns : goal.returns
returns c =
    let a = c.args in
    let left = c.step_on-answer.ensures in
    let w = step_ends a.image.now _ (to_rules a.c) left.0 left.1 in
    (c.keep.ensures.0 ∙ w.0, c.keep.ensures.1 ∙ w.1)
