-- What the check leaves of `count_sooner`.
use Prim.Native.Nat.{ℕ, ◌+◌}
use native.Mathlib.Omega.{arith}
use mathlib.Core.Path.{◌≡◌, sym, ap, ◌∙◌}
use mathlib.Core.Bool.{Bool, true, false}
use mathlib.Core.List.{List}
use Rattle.rules.specs.Line.{at}
use Rattle.queue_chip.specs.Queue.{sooner, how_many}
use Rattle.queue.proofs.Turns.{many_start, many_step}
use Rattle.queue.proofs.count_sooner.Goals as goal
use Rattle.queue.proofs.count_sooner.Goals.{then-is_sooner, else-is_sooner}

abbrev tests : List ℕ → List ℕ → ℕ → ℕ → ℕ → Bool
tests times ages m b u = sooner (at times u) (at ages u) m b

pub loop-i-init : goal.loop-i-init
loop-i-init c = (omega arith, omega arith, many_start (tests c.args.times c.args.ages c.args.m c.args.b))

pub loop-i-preserved : goal.loop-i-preserved
loop-i-preserved c =
    let h = c in
    let a = h.args in
    let f = tests a.times a.ages a.m a.b in
    elim c.if-is_sooner.branch [
      | then-is_sooner w ↦ (
          let e : c.if-is_sooner.n ≡ h.loop-i.n + 1 = w.n-is in
          (omega arith, omega arith, omega (arith, h.loop-i.invariant.2, many_step h.loop-i.i f true (sym c.is_sooner.ensures ∙ w.if-is_sooner.true))))
      | else-is_sooner w ↦ (
          let e : c.if-is_sooner.n ≡ h.loop-i.n = w.n-is in
          (omega arith, omega arith, omega (arith, h.loop-i.invariant.2, many_step h.loop-i.i f false (sym c.is_sooner.ensures ∙ w.if-is_sooner.false))))
    ]

pub returns : goal.returns
returns c =
    let h = c in
    let a = h.args in
    let e : h.loop-i.i ≡ 32 = omega arith in
    h.loop-i.invariant.2 ∙ ap (λ (x : ℕ). how_many x (tests a.times a.ages a.m a.b)) e
