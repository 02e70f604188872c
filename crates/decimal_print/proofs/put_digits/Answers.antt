-- What the check leaves of `put_digits`.
use Prim.Native.Nat.{ℕ, ◌-◌}
use native.Mathlib.Omega.{arith}
use mathlib.Core.Path.{◌≡◌, ap, ◌∙◌}
use lib.ListN.{length-set}
use lib.Seq.{sets}
use Rattle.decimal_print.specs.Method.{last_digits}
use Rattle.decimal_print.proofs.Powers.{twenty, power_at}
use Rattle.decimal_print.proofs.Turns.{next_power, digit_turn}
use Rattle.decimal_print.proofs.put_digits.Goals as goal

pub bounds-powers-left : goal.bounds-powers-left
bounds-powers-left c = let s = c in omega (arith, twenty s.args.powers.now s.requires.0)

pub counted-c-requires : goal.counted-c-requires
counted-c-requires c =
    let s = c in
    let left = c.loop-left.left in
    omega (arith, power_at s.args.powers.now s.requires.0 (left - 1) (omega arith), next_power left (omega arith))

pub loop-left-preserved : goal.loop-left-preserved
loop-left-preserved c =
    let d = c.counted-c in
    let lp = c.loop-left in
    let s = c in
    let p = power_at s.args.powers.now s.requires.0 (lp.left - 1) (omega arith) in
    let l = rw p at d.ensures.1 in (
      omega arith,
      omega arith,
      omega arith,
      l,
      simp length-set lp.invariant.4,
      digit_turn lp.out lp.place lp.left lp.rest d.result.digit d.result.rest (omega arith) (rw p at d.ensures.0) l d.ensures.2
          ∙ lp.invariant.5,
    )

pub put_three-requires : goal.put_three-requires
put_three-requires c =
    let lp = c.loop-left in
    let e : lp.left ≡ 3 = omega arith in
    (omega arith, rw e at lp.invariant.3)

pub returns : goal.returns
returns c =
    let lp = c.loop-left in
    let e : 3 ≡ lp.left = omega arith in
    c.put_three.ensures ∙ ap (λ (k : ℕ). sets lp.out lp.place (last_digits k lp.rest)) e ∙ lp.invariant.5
