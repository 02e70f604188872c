-- `lay` meets its contract: the head, then the tables, then the times, each behind all that is written before it. Assumes nothing.
use borrow.Author.Tests.{eq-eqb, ne_eqb}
use mathlib.Core.Path.{ap, ◌∙◌}
use mathlib.Core.List.{List, ◌++◌}
use Prim.Native.Nat.{ℕ}
use lib.ListN.{length}
use Rattle.image_form.specs.Layout.{bytes_of, exceptions, spare, image_of}
use Rattle.image_layout.proofs.lay.Goals as goal

pub returns-then-image-ne-IMAGE_BYTES : goal.returns-then-image-ne-IMAGE_BYTES
returns-then-image-ne-IMAGE_BYTES c = rw (ne_eqb (length c.args.image.now) 512 c.if-image-ne-IMAGE_BYTES.true)

pub returns : goal.returns
unfolding image_of
returns c =
    let a = c.args in
    let tables : List ℕ → List ℕ =
    λ l. l ++ a.base.now ++ a.ready.now ++ a.delayed.now ++ a.held.now ++ a.way.now ++ exceptions a.pending ++ spare in
    rw (eq-eqb (length a.image.now) 512 c.if-image-ne-IMAGE_BYTES.false)
    (c.put_times.ensures.1 ∙ ap (λ (l : List ℕ). l ++ bytes_of a.until.now) (c.put_tables.ensures.1 ∙ ap tables c.put_head.ensures.1))
