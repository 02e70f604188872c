-- `draw_even_on` meets its contract: each exit by its law. Assumes nothing.
use mathlib.Core.Path.{sym, ap, ◌∙◌}
use Rattle.kernel.specs.declared.Kernel.{Kernel}
use Rattle.generator_evenly.specs.Public.{drawn_of}
use Rattle.image_work.proofs.Exits.{none_draw_evenly, answered_draw_evenly}
use Rattle.image_work.proofs.draw_even_on.Goals as goal

pub returns-then-not-read : goal.returns-then-not-read
returns-then-not-read c =
    let a = c.args in
    c.no_image_even.ensures ∙ none_draw_evenly a.image.now a.seed a.p (sym c.read.ensures.0 ∙ c.if-not-read.true)

pub returns : goal.returns
returns c =
    let a = c.args in
    let so = sym c.read.ensures.0 ∙ c.if-not-read.false in
    let state = rw so at c.read.ensures.1 in
    c.draw.ensures ∙ ap (λ (k : Kernel). drawn_of k a.seed a.p) state ∙ answered_draw_evenly a.image.now a.seed a.p so
