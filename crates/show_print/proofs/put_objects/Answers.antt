-- What the check leaves of `put_objects`.
use native.Mathlib.Omega.{arith}
use mathlib.Core.Path.{◌≡◌}
use Rattle.show_print.proofs.Turns.{none_yet, one_more, same_objects}
use Rattle.show_print.proofs.put_objects.Goals as goal

pub loop-o-init : goal.loop-o-init
loop-o-init c = (omega arith, none_yet 55 _)

pub loop-o-preserved : goal.loop-o-preserved
loop-o-preserved c =
    let loop = c.loop-o in
    (omega arith, one_more 55 _ loop.o loop.invariant.1 c.put_object-next.ensures)

pub returns : goal.returns
returns c =
    let loop = c.loop-o in
    let all : loop.o ≡ 8 = omega arith in
    rw (same_objects c.args.k) at (rw all at loop.invariant.1)
