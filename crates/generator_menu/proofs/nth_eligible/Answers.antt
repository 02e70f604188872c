-- What the check leaves of `nth_eligible`.
use Prim.Native.Nat.{◌+◌, ◌-◌}
use mathlib.Core.Path.{sym, ◌∙◌}
use native.Mathlib.Omega.{arith}
use Rattle.generator_draws.specs.Menu.{sift}
use Rattle.generator_menu.specs.Tables.{eligible_in, upward}
use Rattle.generator_menu.proofs.Loops.{sift_yes, sift_no, sift_done, past_first}
use borrow.Author.Rules.{rules}
use Rattle.generator_menu.proofs.nth_eligible.Goals as goal
use Rattle.generator_menu.proofs.nth_eligible.Goals.{then-is_eligible+else-left-eq0, else-is_eligible}

pub loop-o-init : goal.loop-o-init
unfolding upward
loop-o-init c = search rules

pub returns-then-left-eq0 : goal.returns-then-left-eq0
returns-then-left-eq0 c =
    let h = c in
    let a = h.args in
    let e = c.is_eligible in
    sym (h.loop-o.invariant.2 ∙ rw (
      sift_yes (eligible_in a.ceiling a.held.now a.base) h.loop-o.o (omega arith)
          (sym e.ensures ∙ c.if-is_eligible.true),
      c.if-left-eq0.true,
    ))

pub loop-o-preserved : goal.loop-o-preserved
loop-o-preserved c =
    let h = c in
    let a = h.args in
    let f = eligible_in a.ceiling a.held.now a.base in
    let e = c.is_eligible in
    elim c.if-is_eligible.branch [
      | then-is_eligible+else-left-eq0 w ↦ (
        omega arith,
        omega arith,
        h.loop-o.invariant.2 ∙ (rw (w.left-is, sift_yes f h.loop-o.o (omega arith) (sym e.ensures ∙ w.if-is_eligible.true))
            (past_first h.loop-o.o (sift f (upward (8 - (h.loop-o.o + 1)) (h.loop-o.o + 1))) h.loop-o.left w.if-left-eq0.false)),
      )
      | else-is_eligible w ↦ (omega arith, omega arith, h.loop-o.invariant.2 ∙ rw (w.left-is, sift_no f h.loop-o.o (omega arith) (sym e.ensures ∙ w.if-is_eligible.false)))
    ]

pub returns : goal.returns
returns c =
    let h = c in
    let a = h.args in
    sym (h.loop-o.invariant.2 ∙ rw (sift_done (eligible_in a.ceiling a.held.now a.base) h.loop-o.o (omega arith)))
