-- What the check leaves of `is_ended`.
use Rattle.std.proofs.Common.{sym, ◌∙◌, ◌||◌, not, eqb, arith}
use Rattle.kernel_order.proofs.Laws.{pairs_step, pairs_done}
use Rattle.kernel_order.proofs.is_ended.Goals as goal

pub loop-i-preserved : goal.loop-i-preserved
loop-i-preserved c =
    c.loop-i.invariant ∙ pairs_step (λ x y. not (eqb x 0) || eqb y 0) c.args.line.now c.loop-i.i c.loop-i.ends (omega arith)

pub returns : goal.returns
returns c =
    sym (c.loop-i.invariant ∙ pairs_done (λ x y. not (eqb x 0) || eqb y 0) c.args.line.now c.loop-i.i c.loop-i.ends (omega arith))
