-- `text_print::put_walk_header` meets its contract: refused where there is no room, else put. Assumes nothing.
use Prim.Native.Nat.{◌+◌}
use native.Mathlib.Omega.{arith}
use mathlib.Core.Path.{sym, ◌∙◌}
use borrow.Author.Tests.{leb-true, leb-false}
use lib.ListN.{length}
use Rattle.text.specs.Printed.{walk_header}
use Rattle.decimal.proofs.Stores.{refused}
use Rattle.text.proofs.Stores.{written}
use Rattle.text_print.proofs.put_walk_header.Goals as goal

pub put_bytes-requires : goal.put_bytes-requires
put_bytes-requires c =
    let a = c.args in
    omega (arith, leb-true (a.at + 64) (length a.out.now) (sym c.has_room.ensures ∙ c.if-has_room.true))

pub returns-then-has_room : goal.returns-then-has_room
unfolding walk_header
returns-then-has_room c =
    let a = c.args in
    written 64 a.out.now a.at walk_header c.put_bytes.new.out c.put_bytes.result
    (leb-true (a.at + 64) (length a.out.now) (sym c.has_room.ensures
    ∙ c.if-has_room.true)) c.put_bytes.ensures

pub returns : goal.returns
returns c =
    let a = c.args in
    refused 64 a.out.now a.at walk_header (leb-false (a.at + 64) (length a.out.now) (sym c.has_room.ensures ∙ c.if-has_room.false))
