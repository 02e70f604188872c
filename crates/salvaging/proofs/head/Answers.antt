-- `head` meets its contract: each exit is the definition's case of the tests that led there. Assumes nothing.
use mathlib.Core.Path.{sym, ◌∙◌}
use native.Mathlib.Omega.{arith}
use Rattle.salvaging.proofs.Starts.{head_later, head_short, head_there, head_none}
use Rattle.salvaging.proofs.head.Goals as goal

pub returns-then-place-ne0 : goal.returns-then-place-ne0
returns-then-place-ne0 c = let a = c.args in head_later a.place a.buf.now c.if-place-ne0.true

pub returns-then-buf-lt-RECORD_BYTES : goal.returns-then-buf-lt-RECORD_BYTES
returns-then-buf-lt-RECORD_BYTES c = let a = c.args in head_short a.place a.buf.now (omega arith)

pub returns-then-is_header : goal.returns-then-is_header
returns-then-is_header c =
    let a = c.args in
    head_there a.place a.buf.now (omega arith) (omega arith) (sym c.if-is_header.true ∙ c.is_header.ensures)

pub returns : goal.returns
returns c =
    let a = c.args in
    head_none a.place a.buf.now (omega arith) (omega arith) (sym c.if-is_header.false ∙ c.is_header.ensures)
