-- `is_clean` meets its contract: each part as its test says. Assumes nothing.
use Rattle.image_form.specs.Layout.{clean}
use Rattle.image_layout.proofs.is_clean.Goals as goal

pub returns : goal.returns
unfolding clean
returns c = rw (c.is_free.ensures, c.is_free-2.ensures, c.is_free-3.ensures)
