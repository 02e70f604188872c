-- What the check leaves of `holders_fit`.
use mathlib.Core.Path.{◌≡◌, refl, sym, ◌∙◌}
use native.Mathlib.Omega.{arith}
use lib.ListN.{length, length-set}
use Rattle.kernel_holders.proofs.Loops.{holders_skip, holders_out, holders_stop, holders_step, holders_done}
use borrow.Author.Rules.{rules}
use Rattle.kernel_holders.proofs.holders_fit.Goals as goal

pub loop-t-init : goal.loop-t-init
loop-t-init c = (search rules, refl)

pub loop-t-preserved-then-o-eq0 : goal.loop-t-preserved-then-o-eq0
loop-t-preserved-then-o-eq0 c =
    let a = c.args in (
      c.loop-t.invariant.0,
      c.loop-t.invariant.1 ∙ holders_skip a.ceiling c.loop-t.taken a.base.now a.held.now c.loop-t.t (omega arith) (omega arith) c.if-o-eq0.true,
    )

pub returns-then-o-ge-OBJECT_COUNT : goal.returns-then-o-ge-OBJECT_COUNT
returns-then-o-ge-OBJECT_COUNT c =
    let a = c.args in
    sym
    (c.loop-t.invariant.1 ∙ holders_out a.ceiling c.loop-t.taken a.base.now a.held.now c.loop-t.t (omega arith) (omega arith) c.if-o-eq0.false
    c.if-o-ge-OBJECT_COUNT.true)

pub returns-then-not-free-admits : goal.returns-then-not-free-admits
returns-then-not-free-admits c =
    let a = c.args in
    sym
    (c.loop-t.invariant.1 ∙ holders_stop a.ceiling c.loop-t.taken a.base.now a.held.now c.loop-t.t (omega arith) (omega arith)
    c.if-o-eq0.false c.if-o-ge-OBJECT_COUNT.false (rw (← c.from-i.ensures, ← c.admits.ensures) c.if-not-free-admits.true))

pub loop-t-preserved : goal.loop-t-preserved
loop-t-preserved c =
    let a = c.args in
    let now : length c.loop-t.taken ≡ 8 = c.loop-t.invariant.0 in (
      simp length-set now,
      rw c.from-i.ensures (c.loop-t.invariant.1 ∙ holders_step a.ceiling c.loop-t.taken a.base.now a.held.now c.loop-t.t (omega arith) (omega arith)
          c.if-o-eq0.false c.if-o-ge-OBJECT_COUNT.false
          (rw (← c.from-i.ensures, ← c.admits.ensures) c.if-not-free-admits.false)),
    )

pub returns : goal.returns
returns c =
    let a = c.args in
    sym (c.loop-t.invariant.1 ∙ holders_done a.ceiling c.loop-t.taken a.base.now a.held.now c.loop-t.t (omega arith))
