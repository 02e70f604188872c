-- `read` meets its contract: each exit by its tests, and each part is read as its contract says. Assumes nothing.
use borrow.Author.Tests.{ne_eqb}
use mathlib.Core.Path.{◌≡◌, refl, sym, ◌∙◌}
use mathlib.Core.Bool.{false}
use lib.ListN.{length}
use Rattle.image_form.specs.Layout.{kernel_of, formed, readable}
use Rattle.image_form.proofs.RoundTrip.{made}
use Rattle.image_layout.proofs.read.Goals as goal

pub returns-then-s-ne-IMAGE_BYTES : goal.returns-then-s-ne-IMAGE_BYTES
unfolding formed readable
returns-then-s-ne-IMAGE_BYTES c =
    let s = c.args.s.now in
    let e : readable s ≡ false = rw (ne_eqb (length s) 512 c.if-s-ne-IMAGE_BYTES.true) in
    (sym e, rw e)

pub returns-then-not-is_readable : goal.returns-then-not-is_readable
returns-then-not-is_readable c =
    let e = sym c.is_readable.ensures ∙ c.if-not-is_readable.true in
    (sym e, rw e)

pub returns : goal.returns
unfolding kernel_of
returns c =
    let e = sym c.is_readable.ensures ∙ c.if-not-is_readable.false in (
      sym e,
      rw e
          (made c.get32.ensures c.get32-2.ensures c.get32-3.ensures c.get32-4.ensures c.get32-5.ensures
          c.get_times.ensures
          c.get8.ensures c.get8-2.ensures c.number_at.ensures refl),
    )
