-- What the check leaves of `queue_bench_line`.
use Rattle.std.proofs.Common.{◌≡◌, suc, ◌+◌, refl, arith}
use Rattle.queue_bench.proofs.Turns.{least, line_behind_turn, line_end}
use Rattle.queue_bench.proofs.queue_bench_line.Goals as goal

pub loop-i-init : goal.loop-i-init
loop-i-init c =
    let n = c.lesser-n.ensures in
    (omega arith, (least _ _ _ n).0, (least _ _ _ n).1, n, refl, refl, refl)

pub loop-i-preserved : goal.loop-i-preserved
loop-i-preserved c =
    let l = c.loop-i in
    let t = c.line_turn in
    let w = line_behind_turn _ _ _ l.i (l.i + 1) l.delayed l.until _ _ l.total _ _ (let z : l.i + 1 ≡ suc l.i = omega arith in z)
    l.invariant.4 l.invariant.5 l.invariant.6 t.ensures.0 t.ensures.1 c.time_of.ensures c.mixed-total.ensures in
    (omega arith, l.invariant.1, l.invariant.2, l.invariant.3, w.0, w.1, w.2)

pub returns : goal.returns
returns c =
    let l = c.loop-i in
    line_end _ _ _ _ l.i l.total l.invariant.0 c.loop-i-test.false l.invariant.3 l.invariant.6
