-- `move_down` meets its contract: each exit is the definition's case of the tests that led there. Assumes nothing.
use Prim.Native.Nat.{◌-◌}
use mathlib.Core.Path.{refl, ◌∙◌}
use native.Mathlib.Omega.{arith}
use borrow.Author.Tests.{le-leb, lt-leb}
use lib.Dec.{leb}
use lib.ListN.{length, drop, length-drop}
use Rattle.salvage_marks.specs.Pieces.{movable}
use Rattle.salvage_marks.proofs.Marks.{and_false}
use Rattle.salvaging.proofs.Stores.{moved}
use Rattle.salvaging.proofs.move_down.Goals as goal

pub returns-then-buf-n : goal.returns-then-buf-n
unfolding movable
returns-then-buf-n c =
    let a = c.args in
    rw (lt-leb a.n (length a.buf.now) (omega arith), and_false (leb a.done a.n)) (refl, refl)

pub returns : goal.returns
unfolding movable
returns c =
    let a = c.args in
    rw (le-leb a.done a.n (omega arith), le-leb a.n (length a.buf.now) (omega arith))
    (refl, c.copy_within.ensures.after ∙ moved a.buf.now 0 (a.n - a.done) (drop a.done a.buf.now) (omega arith) (omega (arith, length-drop a.done a.buf.now)))
