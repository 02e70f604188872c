-- What the check leaves of `hold`.
use native.Mathlib.Omega.{arith}
use mathlib.Core.Path.{refl, ◌∙◌}
use lib.ListN.{length-set}
use Rattle.text.proofs.Holding.{one_held, all_held, all_full}
use Rattle.text_split.proofs.hold.Goals as goal

pub loop-i-preserved : goal.loop-i-preserved
loop-i-preserved c =
    let lp = c.loop-i in
    let p = c.args.piece.now in (
      omega arith,
      omega (arith, c.if-n-lt129.true),
      simp length-set lp.invariant.2,
      one_held lp.bytes p lp.n lp.i
          c.loop-i-test.true ∙ lp.invariant.3,
      omega (arith, lp.invariant.4, c.loop-i-test.true),
    )

pub returns-else-n-lt129 : goal.returns-else-n-lt129
returns-else-n-lt129 c =
    let lp = c.loop-i in
    let a = c.args in
    all_full a.h a.piece.now a.h.bytes lp.bytes c.room_taken-n.result lp.n lp.i refl
    c.room_taken-n.ensures lp.invariant.1 lp.invariant.2 lp.invariant.3 lp.invariant.4 c.loop-i-test.true
    (c.if-n-lt129.false)

pub returns-after-loop-i : goal.returns-after-loop-i
returns-after-loop-i c =
    let lp = c.loop-i in
    let a = c.args in
    all_held a.h a.piece.now a.h.bytes lp.bytes c.room_taken-n.result lp.n lp.i refl
    c.room_taken-n.ensures lp.invariant.1 lp.invariant.2 lp.invariant.3 lp.invariant.4 c.loop-i-test.false
