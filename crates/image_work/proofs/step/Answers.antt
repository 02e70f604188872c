-- `step` meets its contract: the step of the command that fits is that of the command itself. Assumes nothing.
use mathlib.Core.Path.{◌∙◌}
use Rattle.image_calls.specs.Calls.{told}
use Rattle.image_work.proofs.Exits.{asked_answer, asked_image}
use Rattle.image_work.proofs.step.Goals as goal

pub returns : goal.returns
returns c =
    let a = c.args in
    let s = a.image.now in
    let asked = told a.op a.a a.b a.value in
    let fits = c.command.ensures in
    (c.step_and_keep.ensures.0 ∙ asked_answer s asked fits, c.step_and_keep.ensures.1 ∙ asked_image s asked fits)
