-- `wakes_left` meets its contract: each exit by its law. Assumes nothing.
use mathlib.Core.Path.{sym, ap, ◌∙◌}
use Rattle.kernel.specs.declared.Left.{Left}
use Rattle.image_form.specs.Layout.{kernel_of}
use Rattle.image_calls.specs.Calls.{packed_left}
use Rattle.image_calls.proofs.Cut.{asked_left}
use Rattle.image_work.proofs.Exits.{none_left, answered_left}
use Rattle.image_work.proofs.wakes_left.Goals as goal

pub returns-then-not-read : goal.returns-then-not-read
returns-then-not-read c =
    let a = c.args in
    none_left a.image.now a.t (sym c.read.ensures.0 ∙ c.if-not-read.true)

pub returns : goal.returns
returns c =
    let a = c.args in
    let s = a.image.now in
    let so = sym c.read.ensures.0 ∙ c.if-not-read.false in
    let left = asked_left (kernel_of s) a.t c.wakes_left.ensures (rw so at c.read.ensures.1) c.task.ensures in
    c.pack_left.ensures ∙ ap (λ (l : Left). packed_left l) left ∙ answered_left s a.t so
