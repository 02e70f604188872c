-- What the check leaves of `put_table`.
use native.Mathlib.Omega.{arith}
use mathlib.Core.Path.{◌≡◌}
use Rattle.show_text.specs.Block.{cell_text, table_text}
use Rattle.show_print.proofs.Turns.{none_yet, one_more}
use Rattle.show_print.proofs.put_table.Goals as goal

pub loop-t-init : goal.loop-t-init
loop-t-init c = (omega arith, none_yet 50 _)

pub loop-t-preserved : goal.loop-t-preserved
unfolding cell_text
loop-t-preserved c =
    let loop = c.loop-t in
    (omega arith, one_more 50 _ loop.t loop.invariant.1 c.put_cell-next.ensures)

pub returns : goal.returns
unfolding table_text cell_text
returns c =
    let loop = c.loop-t in
    let all : loop.t ≡ 32 = omega arith in
    rw all at loop.invariant.1
