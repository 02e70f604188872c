-- `feed` meets its contract: each exit is the definition's case of the tests that led there. Assumes nothing.
use Prim.Native.Nat.{◌≤◌}
use mathlib.Core.Path.{refl, sym, ap, ◌∙◌}
use mathlib.Core.Bool.{true, false}
use native.Mathlib.Omega.{arith}
use lib.ListN.{length}
use borrow.Author.Tests.{leb-true}
use Rattle.salvage_marks.specs.Pieces.{opened}
use Rattle.salvage_marks.proofs.Marks.{both_true}
use Rattle.salvaging.specs.declared.Passed.{Passed}
use Rattle.salvaging.proofs.Starts.{starts}
use Rattle.salvaging.proofs.Answers.{done_few, past, fits_so, no_feed, fed_so}
use Rattle.salvaging.proofs.feed.Goals as goal

pub returns-then-t-buf : goal.returns-then-t-buf
returns-then-t-buf c =
    let a = c.args in
    no_feed a.t a.buf.now a.out.now a.list.now
    (past a.t a.buf.now (length a.out.now) (length a.list.now) (omega arith))

pub returns-then-not-fits : goal.returns-then-not-fits
returns-then-not-fits c =
    let a = c.args in
    let n = c.new-seen.ensures in
    let f = rw (n.0, n.1, n.2) at c.fits.ensures in
    no_feed a.t a.buf.now a.out.now a.list.now
    (fits_so a.t a.buf.now (length a.out.now) (length a.list.now) false (opened a.t) refl (omega arith) (sym c.if-not-fits.true ∙ f))

pub write-p-requires : goal.write-p-requires
write-p-requires c = let b = both_true (sym c.fits.ensures ∙ c.if-not-fits.false) in (leb-true _ _ b.0, leb-true _ _ b.1)

pub overflow_add-torn : goal.overflow_add-torn
overflow_add-torn c =
    let a = c.args in
    let n = c.new-seen.ensures in
    let p = rw (n.0, n.1, n.2) at c.write-p.ensures.passed in
    omega (arith, ap (λ (x : Passed). x.done) p, done_few a.t.place (opened a.t) a.buf.now)

pub returns : goal.returns
returns c =
    let a = c.args in
    let n = c.new-seen.ensures in
    let p = c.write-p.ensures in
    let f = rw (n.0, n.1, n.2) at c.fits.ensures in
    let u : opened a.t ≤ a.t.place = omega arith in
    let s = starts a.t.place (opened a.t) a.buf.now u c.new-seen.result.head (rw (n.0, n.1) at c.new-seen.result.headed) in
    fed_so a.t a.buf.now a.out.now a.list.now (opened a.t) c.new-seen.result.head c.write-p.result
    (fits_so a.t a.buf.now (length a.out.now) (length a.list.now) true (opened a.t) refl (omega arith) (sym c.if-not-fits.false ∙ f))
    refl s (rw (n.0, n.1, n.2) at p.passed) (rw (n.0, n.1) at p.out) (rw (n.0, n.1, n.2) at p.list)
