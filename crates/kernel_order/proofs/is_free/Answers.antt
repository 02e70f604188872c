-- What the check leaves of `is_free`.
use Rattle.std.proofs.Common.{sym, ◌∙◌, eqb, arith}
use Rattle.kernel_line.proofs.Laws.{every_step, every_done}
use Rattle.kernel_order.proofs.is_free.Goals as goal

pub loop-x-preserved : goal.loop-x-preserved
loop-x-preserved c = c.loop-x.invariant ∙ every_step (λ x. eqb x 0) c.args.cells.now c.loop-x.x-index c.loop-x.free (omega arith)

pub returns : goal.returns
returns c = sym (c.loop-x.invariant ∙ every_done (λ x. eqb x 0) c.args.cells.now c.loop-x.x-index c.loop-x.free (omega arith))
