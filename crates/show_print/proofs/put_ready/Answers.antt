-- What the check leaves of `put_ready`.
use Prim.Native.Nat.{◌+◌, ◌*◌}
use native.Mathlib.Omega.{arith}
use mathlib.Core.Path.{refl}
use mathlib.Core.List.{[]}
use borrow.Author.Rules.{rules}
use Rattle.kernel_line.specs.Tables.{level}
use Rattle.kernel.specs.View.{view}
use Rattle.text_print.proofs.Puts.{then}
use Rattle.show_text.specs.Block.{pair, ready_text}
use Rattle.show_print.specs.Seen.{seen}
use Rattle.show_print.proofs.Turns.{nothing, one_behind, complete, inside, further, ready_rest, ready_more, ready_end, same_ready}
use Rattle.show_print.proofs.put_ready.Goals as goal

pub loop-t-init : goal.loop-t-init
loop-t-init c = (record { here = c.of_task-t.ensures; long = search rules; counted = omega arith }, nothing _ _ _ _)

pub put_level-next-requires : goal.put_level-next-requires
put_level-next-requires c =
    let loop = c.loop-t in
    let g = inside loop.invariant.0 c.loop-t-test.true in
    omega arith

pub overflow_add-i : goal.overflow_add-i
overflow_add-i c =
    let loop = c.loop-t in
    let g = inside loop.invariant.0 c.loop-t-test.true in
    omega arith

pub loop-t-smaller : goal.loop-t-smaller
loop-t-smaller c =
    let loop = c.loop-t in
    let g = inside loop.invariant.0 c.loop-t-test.true in
    omega arith

pub loop-t-preserved : goal.loop-t-preserved
loop-t-preserved c =
    let loop = c.loop-t in
    let k = c.args.k in
    let m = seen k.base k.ceiling k.held [] [] in (
      further loop.invariant.0 c.loop-t-test.true c.of_task-t-in-loop-t.ensures,
      one_behind loop.invariant.1 (8 * (loop.i + 1)) (pair loop.t (level k.base k.ceiling k.held loop.t)) (ready_rest m k.ready (loop.i + 1))
          (omega arith) (ready_more loop.invariant.0 m c.loop-t-test.true) (rw c.active.ensures at c.put_level-next.ensures),
    )

pub returns : goal.returns
unfolding ready_text view
returns c =
    let loop = c.loop-t in
    let k = c.args.k in
    let m = seen k.base k.ceiling k.held [] [] in
    let line = one_behind loop.invariant.1 264 (pair 0 (level k.base k.ceiling k.held 0)) [] (omega arith)
    (ready_end loop.invariant.0 m c.loop-t-test.false) (rw c.active-2.ensures at c.put_level-idle.ensures) in
    then (then c.put-next.ensures (rw (same_ready k _) at (complete refl line))) c.put.ensures
