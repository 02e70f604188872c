-- `bits::set_for` meets its contract. Assumes nothing.
use Rattle.kernel_state.proofs.Laws.{set_beyond, set_kept, set_more, set_fits}
use Rattle.kernel_state.proofs.bits.set_for.Goals as goal

pub returns-then-t-gt31 : goal.returns-then-t-gt31
returns-then-t-gt31 c = set_beyond c.args.pending c.args.t c.if-t-gt31.true

pub returns-then-t-has : goal.returns-then-t-has
returns-then-t-has c = let a = c.args in set_kept a.pending a.t _ c.if-t-gt31.false c.has.ensures c.if-t-has.true

pub overflow_add-result : goal.overflow_add-result
overflow_add-result c =
    let a = c.args in
    record { fits = set_fits a.pending a.t _ _ c.ranges.pending.fits c.if-t-gt31.false c.has.ensures c.if-t-has.false c.bit.ensures }

pub returns : goal.returns
returns c =
    let a = c.args in
    set_more a.pending a.t _ _ c.if-t-gt31.false c.has.ensures c.if-t-has.false c.bit.ensures
