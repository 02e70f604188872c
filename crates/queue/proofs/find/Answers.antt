-- What the check leaves of `find`.
use native.Mathlib.Omega.{arith}
use mathlib.Core.Path.{◌≡◌, sym, ◌∙◌}
use mathlib.Core.Bool.{true, false}
use Rattle.queue_chip.specs.Queue.{before, soonest}
use Rattle.queue.proofs.Turns.{search_start, search_step, search_end}
use Rattle.queue.proofs.find.Goals as goal
use Rattle.queue.proofs.find.Goals.{then-is_sooner, else-is_sooner}

pub loop-k-init : goal.loop-k-init
loop-k-init c = (omega arith, omega arith, search_start c.args.times c.args.ages)

pub loop-k-preserved : goal.loop-k-preserved
loop-k-preserved c =
    let h = c in
    let a = h.args in
    let k = h.loop-k.k in
    elim c.if-is_sooner.branch [
      | then-is_sooner w ↦ (
          let e : c.if-is_sooner.best ≡ k = w.best-is in
          let t : before a.times a.ages k (soonest k a.times a.ages) ≡ true =
          rw (sym h.loop-k.invariant.2) (sym c.is_sooner.ensures ∙ w.if-is_sooner.true) in
          (omega arith, omega arith, e ∙ sym (search_step k a.times a.ages true t)))
      | else-is_sooner w ↦ (
          let e : c.if-is_sooner.best ≡ h.loop-k.best = w.best-is in
          let t : before a.times a.ages k (soonest k a.times a.ages) ≡ false =
          rw (sym h.loop-k.invariant.2) (sym c.is_sooner.ensures ∙ w.if-is_sooner.false) in
          (omega arith, omega arith, e ∙ h.loop-k.invariant.2 ∙ sym (search_step k a.times a.ages false t)))
    ]

pub returns : goal.returns
returns c =
    let h = c in
    let a = h.args in
    let e : h.loop-k.best ≡ soonest h.loop-k.k a.times a.ages = h.loop-k.invariant.2 in
    rw (e, search_end h.loop-k.k a.times a.ages (omega arith))
