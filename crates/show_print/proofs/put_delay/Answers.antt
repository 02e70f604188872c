-- What the check leaves of `put_delay`.
use Prim.Native.Nat.{◌+◌, ◌*◌}
use native.Mathlib.Omega.{arith}
use borrow.Author.Rules.{rules}
use Rattle.rules.specs.Line.{at}
use Rattle.kernel.specs.View.{view}
use Rattle.text_print.proofs.Puts.{then, wider}
use Rattle.show_text.specs.Block.{pair, delay_text}
use Rattle.show_print.proofs.Turns.{nothing, one_behind, complete, inside, further, delay_rest, delay_more, delay_end}
use Rattle.show_print.proofs.put_delay.Goals as goal

pub loop-t-init : goal.loop-t-init
loop-t-init c = (record { here = c.of_task-t.ensures; long = search rules; counted = omega arith }, nothing _ _ _ _)

pub put_time-next-requires : goal.put_time-next-requires
put_time-next-requires c =
    let loop = c.loop-t in
    let g = inside loop.invariant.0 c.loop-t-test.true in
    omega arith

pub overflow_add-i : goal.overflow_add-i
overflow_add-i c =
    let loop = c.loop-t in
    let g = inside loop.invariant.0 c.loop-t-test.true in
    omega arith

pub loop-t-smaller : goal.loop-t-smaller
loop-t-smaller c =
    let loop = c.loop-t in
    let g = inside loop.invariant.0 c.loop-t-test.true in
    omega arith

pub loop-t-preserved : goal.loop-t-preserved
loop-t-preserved c =
    let loop = c.loop-t in
    let k = c.args.k in (
      further loop.invariant.0 c.loop-t-test.true c.of_task-t-in-loop-t.ensures,
      one_behind loop.invariant.1 (25 * (loop.i + 1)) (pair loop.t (at k.until loop.t)) (delay_rest k.until k.delayed (loop.i + 1)) (omega arith)
          (delay_more loop.invariant.0 k.until c.loop-t-test.true) (rw c.time_at.ensures at c.put_time-next.ensures),
    )

pub returns : goal.returns
unfolding delay_text view
returns c =
    let loop = c.loop-t in
    let k = c.args.k in
    let line = complete (delay_end loop.invariant.0 k.until c.loop-t-test.false) loop.invariant.1 in
    wider 807 (omega arith) (then (then c.put-next.ensures line) c.put.ensures)
