-- What the check leaves of `holder_of`.
use native.Mathlib.Omega.{arith}
use mathlib.Core.Path.{◌≡◌, sym, ◌∙◌}
use mathlib.Core.List.{[]}
use mathlib.Core.Bool.{true, false}
use borrow.Author.Tests.{eq-eqb, ne_eqb}
use Rattle.show_print.specs.Seen.{seen}
use Rattle.show_print.proofs.Turns.{no_holder, next_holder}
use Rattle.show_print.proofs.holder_of.Goals as goal
use Rattle.show_print.proofs.holder_of.Goals.{then-held-i, else-held-i}

pub loop-t-init : goal.loop-t-init
loop-t-init c = (omega arith, no_holder (seen [] [] c.args.held [] []) c.args.o)

pub loop-t-preserved : goal.loop-t-preserved
loop-t-preserved c =
    let a = c.args in
    let m = seen [] [] a.held [] [] in
    elim c.if-held-i.branch [ then-held-i w ↦ (omega arith, w.holder-is ∙ sym (next_holder m a.o c.loop-t.t true (eq-eqb _ _ w.if-held-i.true))) | else-held-i w ↦ (omega arith, w.holder-is ∙ c.loop-t.invariant.1 ∙ sym (next_holder m a.o c.loop-t.t false (ne_eqb _ _ w.if-held-i.false))) ]

pub returns : goal.returns
returns c = let end : c.loop-t.t ≡ 32 = omega arith in rw end at c.loop-t.invariant.1
