-- `show_print::put_entry` meets its contract: refused where there is no room, else put. Assumes nothing.
use native.Mathlib.Omega.{arith}
use mathlib.Core.List.{◌++◌}
use Rattle.kernel.specs.View.{view}
use Rattle.text.specs.Printed.{walk_line}
use Rattle.show_text.specs.Block.{block, show_room}
use Rattle.show_print.proofs.Turns.{refused_within, put_within}
use Rattle.show_print.proofs.put_entry.Goals as goal

pub returns-then-out-lt4096 : goal.returns-then-out-lt4096
returns-then-out-lt4096 c =
    let a = c.args in
    refused_within show_room a.out.now a.at (walk_line a.row ++ block (view a.k) a.pending a.q a.exception) (omega arith)

pub returns-then-out-at : goal.returns-then-out-at
returns-then-out-at c =
    let a = c.args in
    refused_within show_room a.out.now a.at (walk_line a.row ++ block (view a.k) a.pending a.q a.exception) (omega arith)

pub returns : goal.returns
returns c =
    let a = c.args in
    put_within show_room a.out.now a.at _ _ _ (omega arith) c.put_both.ensures
