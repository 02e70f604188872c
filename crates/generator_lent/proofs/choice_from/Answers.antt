-- What the check leaves of `choice_from`.
use mathlib.Core.Path.{sym, ◌∙◌}
use native.Mathlib.Omega.{arith}
use Rattle.generator_lent.proofs.Loops.{start, stop, again, last}
use Rattle.generator_lent.proofs.choice_from.Goals as goal

pub loop-spent-init : goal.loop-spent-init
loop-spent-init c = (omega arith, start c.args.n c.args.seed)

pub returns-then-value_of-top : goal.returns-then-value_of-top
returns-then-value_of-top c =
    let h = c in
    let x = c.xorshift-x in
    let v = c.value_of in
    let a = h.args in
    c.taken.ensures
    ∙ stop a.n h.loop-spent.s h.loop-spent.spent x.result (omega arith) x.ensures (omega (arith, v.ensures, h.limit-top.ensures))
    ∙ sym h.loop-spent.invariant.1

pub loop-spent-preserved : goal.loop-spent-preserved
loop-spent-preserved c =
    let h = c in
    let x = c.xorshift-x in
    let v = c.value_of in
    let a = h.args in (
      omega arith,
      h.loop-spent.invariant.1 ∙ again a.n h.loop-spent.s h.loop-spent.spent x.result (omega arith) x.ensures
          (omega (arith, v.ensures, h.limit-top.ensures)),
    )

pub returns : goal.returns
returns c =
    let h = c in
    let x = c.xorshift in
    let a = h.args in
    c.taken-2.ensures ∙ last a.n h.loop-spent.s h.loop-spent.spent x.result h.loop-spent.invariant.0 (omega arith) x.ensures ∙ sym h.loop-spent.invariant.1
