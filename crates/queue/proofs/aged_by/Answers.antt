-- What the check leaves of `aged_by`.
use native.Mathlib.Omega.{arith}
use mathlib.Core.Path.{◌≡◌, sym, ◌∙◌}
use lib.ListN.{length, length-set}
use borrow.Author.Rules.{rules}
use Rattle.queue.proofs.Turns.{aged_step, aged_done}
use Rattle.queue.proofs.aged_by.Goals as goal

pub loop-i-preserved : goal.loop-i-preserved
loop-i-preserved c =
    let h = c in
    let a = h.args in
    let ns : length a.times ≡ 32 = search rules in
    let gs : length a.ages ≡ 32 = search rules in
    let os : length h.loop-i.out ≡ 32 = h.loop-i.invariant.1 in (
      omega arith,
      simp length-set os,
      h.loop-i.invariant.2
          ∙ aged_step a.n a.times a.ages h.loop-i.out h.loop-i.i (omega arith) (omega arith) (omega arith)
          ∙ rw c.older_by-age.ensures,
    )

pub returns : goal.returns
returns c =
    let h = c in
    let a = h.args in
    let ns : length a.times ≡ 32 = search rules in
    let os : length h.loop-i.out ≡ 32 = h.loop-i.invariant.1 in
    sym (h.loop-i.invariant.2 ∙ aged_done a.n a.times a.ages h.loop-i.out h.loop-i.i (omega arith) (omega arith))
