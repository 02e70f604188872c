-- What the check leaves of `put_pending`.
use native.Mathlib.Omega.{arith}
use mathlib.Core.Path.{◌≡◌}
use Rattle.text_print.proofs.Puts.{then}
use Rattle.show_text.specs.Block.{owed_text, pending_text}
use Rattle.show_print.proofs.Turns.{none_yet, one_more}
use Rattle.show_print.proofs.put_pending.Goals as goal

pub loop-t-init : goal.loop-t-init
loop-t-init c = (omega arith, none_yet 4 _)

pub loop-t-preserved : goal.loop-t-preserved
unfolding owed_text
loop-t-preserved c =
    let loop = c.loop-t in
    (omega arith, one_more 4 _ loop.t loop.invariant.1 (rw c.is_owed.ensures at c.put_owed-next.ensures))

pub returns : goal.returns
unfolding pending_text
returns c =
    let loop = c.loop-t in
    let all : loop.t ≡ 32 = omega arith in
    then (then c.put-next.ensures (rw all at loop.invariant.1)) c.put.ensures
