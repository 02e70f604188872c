-- `bits::cleared` meets its contract: a bit that is 1 is part of the number, and is below 32. Assumes nothing.
use borrow.Author.Rules.{rules}
use mathlib.Core.Path.{ap}
use mathlib.Core.Bool.{not}
use Rattle.kernel_state.proofs.Laws.{clear_none, clear_less, clear_below, clear_some}
use Rattle.kernel_state.proofs.bits.cleared.Goals as goal

pub returns-then-not-has : goal.returns-then-not-has
returns-then-not-has c = let a = c.args in clear_none a.pending a.t _ c.has.ensures (ap not c.if-not-has.true)

pub bit-requires : goal.bit-requires
bit-requires c = let a = c.args in clear_below a.pending a.t _ (search rules) c.has.ensures (ap not c.if-not-has.false)

pub overflow_sub-result : goal.overflow_sub-result
overflow_sub-result c = let a = c.args in clear_some a.pending a.t _ _ c.has.ensures (ap not c.if-not-has.false) c.bit.ensures

pub returns : goal.returns
returns c = let a = c.args in clear_less a.pending a.t _ _ c.has.ensures (ap not c.if-not-has.false) c.bit.ensures
