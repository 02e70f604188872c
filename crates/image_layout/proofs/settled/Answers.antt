-- `settled` meets its contract: each exit by the length. Assumes nothing.
use lib.ListN.{length}
use borrow.Author.Tests.{eq-eqb, ne_eqb}
use Rattle.image_layout.specs.Settled.{settled_in}
use Rattle.image_layout.proofs.settled.Goals as goal

pub returns-then-s-eq-IMAGE_BYTES : goal.returns-then-s-eq-IMAGE_BYTES
unfolding settled_in
returns-then-s-eq-IMAGE_BYTES c =
    let long = eq-eqb (length c.args.s.now) 512 c.if-s-eq-IMAGE_BYTES.true in
    rw (long, ← c.pending_at.ensures, ← c.whose.ensures) c.settle.ensures

pub returns : goal.returns
unfolding settled_in
returns c = rw (ne_eqb (length c.args.s.now) 512 c.if-s-eq-IMAGE_BYTES.false)
