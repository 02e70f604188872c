-- `settle` meets its contract: the callees' contracts, one after the other. Assumes nothing.
use borrow.Author.Tests.{eq-eqb, ne_eqb}
use Rattle.kernel_state.proofs.settle.Goals as goal

pub returns-then-answer-ne0 : goal.returns-then-answer-ne0
returns-then-answer-ne0 c = rw (ne_eqb _ 0 c.if-answer-ne0.true)

pub returns : goal.returns
returns c =
    rw (
      eq-eqb _ 0 c.if-answer-ne0.false,
      c.has.ensures,
      c.cleared.ensures,
      c.set_for-told.ensures,
      c.task_of.ensures,
    )
