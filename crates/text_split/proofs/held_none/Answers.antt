-- `text_split::held_none` meets its contract. Assumes nothing.
use mathlib.Core.Path.{refl}
use Rattle.text.specs.Lines.{nothing_held}
use Rattle.text_split.proofs.held_none.Goals as goal

pub returns : goal.returns
unfolding nothing_held
returns c = refl
