-- `number_at` meets its contract: the part holds the bytes from that place on. Assumes nothing.
use Prim.Native.Nat.{ℕ}
use mathlib.Core.Path.{ap, ◌∙◌}
use mathlib.Core.List.{List}
use Rattle.record.specs.Form.{of_le}
use Rattle.image_form.proofs.Numbers.{number_in}
use Rattle.image_layout.proofs.number_at.Goals as goal

pub returns : goal.returns
returns c =
    let a = c.args in
    c.number_of.ensures ∙ ap (λ (l : List ℕ). of_le l 0) c.get8.ensures ∙ number_in a.at a.s.now
