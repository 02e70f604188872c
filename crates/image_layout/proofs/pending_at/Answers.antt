-- `pending_at` meets its contract: each byte by itself. Assumes nothing.
use Rattle.image_form.specs.Layout.{pending_of}
use Rattle.image_layout.proofs.pending_at.Goals as goal

pub returns : goal.returns
unfolding pending_of
returns c =
    rw (c.wide32.ensures.0, c.wide32-2.ensures.0, c.wide32-3.ensures.0, c.wide32-4.ensures.0)
