-- `text_first::seed_text` meets its contract. Assumes nothing.
use native.Mathlib.Omega.{arith}
use Rattle.text_first.proofs.Opening.{seed_read, reading_bound}
use Rattle.text_first.proofs.seed_text.Goals as goal

pub overflow_cast-result : goal.overflow_cast-result
overflow_cast-result c =
    omega (arith, reading_bound c.args.word.now c.number-r.result c.number-r.ensures)

pub returns-then-r-value : goal.returns-then-r-value
returns-then-r-value c =
    let w = c.args.word.now in
    rw c.if-r-value.true at (seed_read w c.number-r.result c.number-r.ensures)

pub returns : goal.returns
returns c =
    let w = c.args.word.now in
    rw c.if-r-value.false at (seed_read w c.number-r.result c.number-r.ensures)
