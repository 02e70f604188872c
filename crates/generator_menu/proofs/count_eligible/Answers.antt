-- What the check leaves of `count_eligible`.
use mathlib.Core.Path.{sym, ap, ◌∙◌}
use native.Mathlib.Omega.{arith}
use lib.ListN.{length}
use Rattle.generator_menu.specs.Tables.{eligible_in, upward}
use Rattle.generator_menu.proofs.Loops.{sift_yes, sift_no, sift_done}
use borrow.Author.Rules.{rules}
use Rattle.generator_menu.proofs.count_eligible.Goals as goal
use Rattle.generator_menu.proofs.count_eligible.Goals.{then-is_eligible, else-is_eligible}

pub loop-o-init : goal.loop-o-init
unfolding upward
loop-o-init c = search rules

pub loop-o-preserved : goal.loop-o-preserved
loop-o-preserved c =
    let h = c in
    let a = h.args in
    let f = eligible_in a.ceiling a.held.now a.base in
    elim c.if-is_eligible.branch [
      | then-is_eligible w ↦ (
        omega arith,
        omega arith,
        omega arith,
        h.loop-o.invariant.3
            ∙ rw (w.n-is, sift_yes f h.loop-o.o (omega arith) (sym c.is_eligible.ensures ∙ w.if-is_eligible.true)) (omega arith),
      )
      | else-is_eligible w ↦ (
        omega arith,
        omega arith,
        omega arith,
        h.loop-o.invariant.3
            ∙ rw (w.n-is, sift_no f h.loop-o.o (omega arith) (sym c.is_eligible.ensures ∙ w.if-is_eligible.false)),
      )
    ]

pub returns : goal.returns
returns c =
    let h = c in
    let a = h.args in
    omega (arith, ap (λ l. length l) (sift_done (eligible_in a.ceiling a.held.now a.base) h.loop-o.o (omega arith)))
