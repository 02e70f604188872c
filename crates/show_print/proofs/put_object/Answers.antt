-- `show_print::put_object` meets its contract: the lookups, one after the other, and the line; or nothing. Assumes nothing.
use mathlib.Core.Path.{refl, sym, ◌∙◌}
use mathlib.Core.List.{[]}
use borrow.Author.Tests.{eq-eqb, ne_eqb}
use lib.ListN.{get_or-map}
use Rattle.rules.specs.Line.{at}
use Rattle.kernel.specs.View.{nobody_or}
use Rattle.text_print.proofs.Puts.{none}
use Rattle.show_text.specs.Block.{object_text}
use Rattle.show_print.specs.Seen.{seen}
use Rattle.show_print.proofs.Turns.{same_holder}
use Rattle.show_print.proofs.put_object.Goals as goal

pub returns-then-top-eq0 : goal.returns-then-top-eq0
unfolding object_text
returns-then-top-eq0 c =
    let a = c.args in
    rw (eq-eqb (at a.ceiling a.o) 0 (sym c.of_object-top.ensures ∙ c.if-top-eq0.true)) (none 55 a.out.now a.at)

pub returns : goal.returns
unfolding object_text
returns c =
    let holder = c.holder_of-holder in
    let top = c.of_object-top in
    let a = c.args in
    let m = seen [] a.ceiling a.held a.way a.waiter in
    let held = holder.ensures ∙ same_holder (seen [] [] a.held [] []) a.o m 32 refl in
    rw (ne_eqb (at a.ceiling a.o) 0 (λ z. c.if-top-eq0.false (top.ensures ∙ z)), get_or-map nobody_or a.waiter a.o 0)
    (rw (top.ensures, c.of_task-hold.ensures, held, c.of_object.ensures) at c.put_line.ensures)
