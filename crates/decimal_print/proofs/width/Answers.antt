-- What the check leaves of `width`.
use Prim.Native.Nat.{◌^◌, ◌≤◌, ◌<◌}
use native.Mathlib.Omega.{arith}
use mathlib.Core.Path.{◌≡◌}
use Rattle.decimal_print.proofs.Powers.{twenty, power_at}
use Rattle.decimal_print.proofs.Turns.{wide_enough, narrow_enough, width_some, width_most}
use Rattle.decimal_print.proofs.width.Goals as goal

pub loop-k-init : goal.loop-k-init
loop-k-init c = omega (arith, width_some 19 c.args.n)

pub bounds-powers-k : goal.bounds-powers-k
bounds-powers-k c = let s = c in omega (arith, twenty s.args.powers.now s.requires)

pub loop-k-preserved : goal.loop-k-preserved
loop-k-preserved c =
    let k = c.loop-k.k in
    let s = c in
    let n = s.args.n in
    let powers = s.args.powers.now in
    let l : 10 ^ k ≤ n = omega (arith, power_at powers s.requires k (omega arith), c.if-powers-k.true) in
    omega (arith, wide_enough 20 k n (omega arith) l)

pub returns-else-powers-k : goal.returns-else-powers-k
returns-else-powers-k c =
    let k = c.loop-k.k in
    let s = c in
    let n = s.args.n in
    let powers = s.args.powers.now in
    let l : n < 10 ^ k = omega (arith, power_at powers s.requires k (omega arith), c.if-powers-k.false) in
    omega (arith, l, narrow_enough k n c.loop-k.invariant.0 l)

pub returns-after-loop-k : goal.returns-after-loop-k
returns-after-loop-k c =
    let n = c.args.n in
    let e : c.loop-k.k ≡ 20 = omega (arith, width_most n) in
    rw e (omega (arith, width_most n))
