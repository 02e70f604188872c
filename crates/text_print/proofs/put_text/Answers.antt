-- `text_print::put_text` meets its contract: refused where there is no room, else put. Assumes nothing.
use Prim.Native.Nat.{◌+◌}
use native.Mathlib.Omega.{arith}
use mathlib.Core.Path.{sym, ◌∙◌}
use borrow.Author.Tests.{leb-true, leb-false}
use lib.ListN.{length}
use Rattle.decimal.proofs.Stores.{refused}
use Rattle.text.proofs.Stores.{written}
use Rattle.text_print.proofs.put_text.Goals as goal

pub put_bytes-requires : goal.put_bytes-requires
put_bytes-requires c =
    let a = c.args in
    omega (arith, leb-true (a.at + length a.text.now) (length a.out.now) (sym c.has_room.ensures ∙ c.if-has_room.true))

pub returns-then-has_room : goal.returns-then-has_room
returns-then-has_room c =
    let a = c.args in
    written (length a.text.now) a.out.now a.at a.text.now c.put_bytes.new.out c.put_bytes.result
    (leb-true (a.at + length a.text.now) (length a.out.now)
    (sym c.has_room.ensures ∙ c.if-has_room.true))
    c.put_bytes.ensures

pub returns : goal.returns
returns c =
    let a = c.args in
    refused (length a.text.now) a.out.now a.at a.text.now
    (leb-false (a.at + length a.text.now) (length a.out.now) (sym c.has_room.ensures ∙ c.if-has_room.false))
