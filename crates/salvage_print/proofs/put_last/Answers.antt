-- `salvage_print::put_last` meets its contract: refused where there is no room, else put. Assumes nothing.
use native.Mathlib.Omega.{arith}
use Rattle.decimal.proofs.Stores.{refused}
use Rattle.text.proofs.Stores.{written}
use Rattle.salvage_text.specs.Lines.{last_text, last_room}
use Rattle.salvage_print.proofs.put_last.Goals as goal

pub returns-then-out-lt83 : goal.returns-then-out-lt83
returns-then-out-lt83 c =
    let a = c.args in
    refused last_room a.out.now 0 (last_text a.records a.dropped a.headed) (omega arith)

pub returns : goal.returns
returns c =
    let a = c.args in
    let p = c.put_counts in
    written last_room a.out.now 0 (last_text a.records a.dropped a.headed) p.new.out p.result (omega arith) p.ensures
