-- `fresh` meets its contract: each exit by the length. The tables that are laid out are those of the fresh machine. Assumes nothing.
use borrow.Author.Tests.{eq-eqb, ne_eqb}
use lib.ListN.{length}
use Rattle.kernel.specs.View as K
use Rattle.kernel_state.specs.Public.{encode}
use Rattle.image_calls.specs.Calls.{fresh_answer, fresh_image}
use Rattle.image_work.proofs.fresh.Goals as goal

pub returns-then-image-ne-IMAGE_BYTES : goal.returns-then-image-ne-IMAGE_BYTES
unfolding fresh_answer fresh_image
returns-then-image-ne-IMAGE_BYTES c =
    let e = ne_eqb (length c.args.image.now) 512 c.if-image-ne-IMAGE_BYTES.true in (simp e, simp e)

pub returns : goal.returns
unfolding fresh_answer fresh_image encode K.encode
returns c =
    let e = eq-eqb (length c.args.image.now) 512 c.if-image-ne-IMAGE_BYTES.false in
    (simp e, c.lay.ensures)
