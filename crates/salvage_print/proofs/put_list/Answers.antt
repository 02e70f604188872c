-- `salvage_print::put_list` meets its contract: refused where there is no room, else put. Assumes nothing.
use native.Mathlib.Omega.{arith}
use Rattle.decimal.proofs.Stores.{refused}
use Rattle.text.proofs.Stores.{written}
use Rattle.salvage_text.specs.Lines.{list_text, list_room}
use Rattle.salvage_print.proofs.put_list.Goals as goal

pub returns-then-cells-gt-MOST : goal.returns-then-cells-gt-MOST
returns-then-cells-gt-MOST c =
    let a = c.args in
    refused (list_room a.cells.now) a.out.now 0 (list_text a.cells.now) (omega arith)

pub returns-then-out-cells : goal.returns-then-out-cells
returns-then-out-cells c =
    let a = c.args in
    refused (list_room a.cells.now) a.out.now 0 (list_text a.cells.now) (omega arith)

pub returns : goal.returns
returns c =
    let a = c.args in
    let p = c.put_stretches in
    written (list_room a.cells.now) a.out.now 0 (list_text a.cells.now) p.new.out p.result (omega arith) p.ensures
