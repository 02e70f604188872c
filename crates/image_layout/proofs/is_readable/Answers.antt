-- `is_readable` meets its contract: each exit by its test. Assumes nothing.
use mathlib.Core.Path.{◌≡◌, sym, ◌∙◌}
use mathlib.Core.Bool.{true, false, and-false}
use lib.Dec.{eqb}
use lib.ListN.{length}
use borrow.Author.Tests.{eq-eqb}
use Rattle.image_form.specs.Layout.{kernel_of, clean, formed, readable}
use Rattle.image_layout.proofs.is_readable.Goals as goal

pub returns-then-not-is_clean : goal.returns-then-not-is_clean
unfolding formed readable
returns-then-not-is_clean c =
    let s = c.args.s.now in
    let unclean : clean s ≡ false = sym c.is_clean.ensures ∙ c.if-not-is_clean.true in
    rw (unclean, and-false (eqb (length s) 512))

pub returns : goal.returns
unfolding formed readable kernel_of
returns c =
    let s = c.args.s.now in
    let cleaned : clean s ≡ true = sym c.is_clean.ensures ∙ c.if-not-is_clean.false in
    rw (eq-eqb (length s) 512 c.requires, cleaned, ← c.get32-base.ensures, ← c.pending_at.ensures) c.pending_sound.ensures
