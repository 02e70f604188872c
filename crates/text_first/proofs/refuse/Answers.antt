-- `text_first::refuse` meets its contract. Assumes nothing.
use mathlib.Core.Path.{refl}
use Rattle.text.specs.FirstLine.{refused_with}
use Rattle.text_first.proofs.refuse.Goals as goal

pub returns : goal.returns
unfolding refused_with
returns c = refl
