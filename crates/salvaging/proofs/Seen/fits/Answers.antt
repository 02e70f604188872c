-- `fits` meets its contract: what fits for sure is not measured. Assumes nothing.
use Prim.Native.Nat.{◌/◌}
use mathlib.Core.Path.{sym, ◌∙◌}
use borrow.Author.Tests.{leb-true}
use lib.Dec.{leb}
use lib.ListN.{length}
use Rattle.salvage_marks.proofs.Marks.{both_true}
use Rattle.salvaging.proofs.Starts.{sure}
use Rattle.salvaging.proofs.Seen.fits.Goals as goal

pub returns-then-long_enough : goal.returns-then-long_enough
returns-then-long_enough c =
    let a = c.args in
    let s = a.self.now in
    let b = s.buf.now in
    let t = both_true {x = leb (length b) a.n} {y = leb (length b / 8) a.m} (sym c.long_enough.ensures ∙ c.if-long_enough.true) in
    sure s.place s.begin b a.n a.m (leb-true (length b) a.n t.0) (leb-true (length b / 8) a.m t.1)
