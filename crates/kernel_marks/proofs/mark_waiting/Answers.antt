-- What the check leaves of `mark_waiting`.
use Rattle.std.proofs.Common.{◌≡◌, sym, ◌∙◌, cond, eqb, leb, length, length-set, arith, rules}
use Rattle.rules.specs.Line.{at}
use Rattle.kernel_marks.specs.Marks.{met}
use Rattle.kernel_marks.proofs.Laws.{marks_step, marks_stop, marks_done}
use borrow.Author.Tests.{lt-leb, le-leb, eq-eqb, ne_eqb}
use Rattle.kernel_marks.proofs.mark_waiting.Goals as goal
use Rattle.kernel_marks.proofs.mark_waiting.Goals.{then-x-eq0, else-x-eq0}

pub returns-then-x-ge32 : goal.returns-then-x-ge32
returns-then-x-ge32 c =
    let l = c.args.waiter in
    let len : length l ≡ 8 = search rules in
    let i = c.loop-x.x-index in
    sym (c.loop-x.invariant.1 ∙ marks_stop (leb 32) c.args.mark l c.loop-x.out i (omega arith) (le-leb 32 (at l i) c.if-x-ge32.true))

pub loop-x-preserved : goal.loop-x-preserved
loop-x-preserved c =
    let l = c.args.waiter in
    let out = c.loop-x.out in
    let len : length l ≡ 8 = search rules in
    let i = c.loop-x.x-index in
    let x = at l i in
    let long : length out ≡ 32 = c.loop-x.invariant.0 in
    let now : c.if-x-eq0.out ≡ cond (eqb x 0) 0 (met c.args.mark (at out x)) = elim c.if-x-eq0.branch [
      | then-x-eq0 w ↦ rw (eq-eqb x 0 w.if-x-eq0.true) w.out-is
      | else-x-eq0 w ↦ rw (ne_eqb x 0 w.if-x-eq0.false) (w.out-is ∙ rw (← c.from-i.ensures) w.met.ensures)
    ] in (
      simp length-set long,
      rw (now, c.from-i.ensures) (c.loop-x.invariant.1 ∙ marks_step (leb 32) c.args.mark l out i (omega arith) (lt-leb 32 x c.if-x-ge32.false)),
    )

pub returns : goal.returns
returns c =
    let len : length c.args.waiter ≡ 8 = search rules in
    sym (c.loop-x.invariant.1 ∙ marks_done (leb 32) c.args.mark c.args.waiter c.loop-x.out c.loop-x.x-index (omega arith))
