-- `text_print::put_draw_line` meets its contract: refused where there is no room, else put. Assumes nothing.
use Prim.Native.Nat.{◌+◌}
use native.Mathlib.Omega.{arith}
use mathlib.Core.Path.{sym, ◌∙◌}
use borrow.Author.Tests.{leb-true, leb-false}
use lib.ListN.{length}
use Rattle.text.specs.Printed.{draw_line}
use Rattle.decimal.proofs.Stores.{refused}
use Rattle.text.proofs.Stores.{written}
use Rattle.text_print.proofs.put_draw_line.Goals as goal

pub draw_fields-requires : goal.draw_fields-requires
draw_fields-requires c =
    let a = c.args in
    omega (arith, leb-true (a.at + 192) (length a.out.now) (sym c.has_room.ensures ∙ c.if-has_room.true))

pub returns-then-has_room : goal.returns-then-has_room
returns-then-has_room c =
    let a = c.args in
    written 192 a.out.now a.at (draw_line a.row) c.draw_fields.new.out c.draw_fields.result
    (leb-true (a.at + 192) (length a.out.now) (sym c.has_room.ensures
    ∙ c.if-has_room.true)) c.draw_fields.ensures

pub returns : goal.returns
returns c =
    let a = c.args in
    refused 192 a.out.now a.at (draw_line a.row)
    (leb-false (a.at + 192) (length a.out.now) (sym c.has_room.ensures ∙ c.if-has_room.false))
