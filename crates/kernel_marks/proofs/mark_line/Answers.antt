-- What the check leaves of `mark_line`.
use Rattle.std.proofs.Common.{◌≡◌, sym, ◌∙◌, length, length-set, arith}
use Rattle.rules.specs.Line.{at}
use Rattle.kernel_line.specs.Tables.{no_task}
use Rattle.kernel_marks.proofs.Laws.{marks_step, marks_stop, marks_done}
use borrow.Author.Tests.{lt-leb, le-leb, eq-eqb, ne_eqb}
use Rattle.kernel_marks.proofs.mark_line.Goals as goal

pub returns-then-x-eq0 : goal.returns-then-x-eq0
returns-then-x-eq0 c =
    let l = c.args.line.now in
    let i = c.loop-x.x-index in
    sym (c.loop-x.invariant.1 ∙ marks_stop no_task c.args.mark l c.loop-x.out i (omega arith) (rw (eq-eqb (at l i) 0 c.if-x-eq0.true)))

pub returns-then-x-ge32 : goal.returns-then-x-ge32
returns-then-x-ge32 c =
    let l = c.args.line.now in
    let i = c.loop-x.x-index in
    sym (c.loop-x.invariant.1 ∙ marks_stop no_task c.args.mark l c.loop-x.out i (omega arith)
    (rw (ne_eqb (at l i) 0 c.if-x-eq0.false, le-leb 32 (at l i) c.if-x-ge32.true)))

pub loop-x-preserved : goal.loop-x-preserved
loop-x-preserved c =
    let l = c.args.line.now in
    let i = c.loop-x.x-index in
    let some = ne_eqb (at l i) 0 c.if-x-eq0.false in
    let long : length c.loop-x.out ≡ 32 = c.loop-x.invariant.0 in (
      simp length-set long,
      rw (c.met.ensures, c.from-i.ensures) (c.loop-x.invariant.1 ∙ marks_step no_task c.args.mark l c.loop-x.out i (omega arith)
          (rw (some, lt-leb 32 (at l i) c.if-x-ge32.false)) ∙ rw some),
    )

pub returns : goal.returns
returns c = sym (c.loop-x.invariant.1 ∙ marks_done no_task c.args.mark c.args.line.now c.loop-x.out c.loop-x.x-index (omega arith))
