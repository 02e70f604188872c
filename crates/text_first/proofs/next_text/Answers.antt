-- `text_first::next_text` meets its contract: too little is left, the text stands there, or another. Assumes nothing.
use native.Mathlib.Omega.{arith}
use Rattle.text_first.proofs.Opening.{text_short, text_here, text_other}
use Rattle.text_first.proofs.next_text.Goals as goal

pub returns-then-line-at : goal.returns-then-line-at
returns-then-line-at c = let a = c.args in text_short a.line.now a.text.now a.at c.requires c.if-line-at.true

pub returns-then-same_bytes : goal.returns-then-same_bytes
returns-then-same_bytes c =
    let a = c.args in
    text_here a.line.now a.text.now a.at c.requires c.same_bytes.result
    c.same_bytes.ensures c.if-same_bytes.true (omega arith)

pub returns : goal.returns
returns c =
    let a = c.args in
    text_other a.line.now a.text.now a.at c.requires c.same_bytes.result
    c.same_bytes.ensures c.if-same_bytes.false
