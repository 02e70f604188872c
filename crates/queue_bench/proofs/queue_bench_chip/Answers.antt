-- What the check leaves of `queue_bench_chip`.
use Rattle.std.proofs.Common.{◌≡◌, suc, ◌+◌, refl, arith}
use Rattle.queue_bench.proofs.Turns.{least, chip_turn, chip_end}
use Rattle.queue_bench.proofs.queue_bench_chip.Goals as goal

pub loop-i-init : goal.loop-i-init
loop-i-init c =
    let n = c.lesser-n.ensures in
    (omega arith, (least _ _ _ n).0, (least _ _ _ n).1, n, c.none-q.ensures, refl)

pub loop-i-preserved : goal.loop-i-preserved
loop-i-preserved c =
    let l = c.loop-i in
    let w = chip_turn _ _ _ l.i (l.i + 1) l.q _ l.total _ (let z : l.i + 1 ≡ suc l.i = omega arith in z) l.invariant.4 l.invariant.5
    c.queue_turn-next.ensures c.mixed-total.ensures in
    (omega arith, l.invariant.1, l.invariant.2, l.invariant.3, w.0, w.1)

pub returns : goal.returns
returns c =
    let l = c.loop-i in
    chip_end _ _ _ _ l.i l.total l.invariant.0 c.loop-i-test.false l.invariant.3 l.invariant.5
