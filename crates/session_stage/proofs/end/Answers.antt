-- `session_stage::end` meets its contract: by the stage. Assumes nothing.
use borrow.Author.Tests.{eq-eqb, ne_eqb}
use Rattle.session_stage.specs.Stage.{ended}
use Rattle.session_stage.proofs.end.Goals as goal

pub returns-then-c-eq-FIRST_LINE : goal.returns-then-c-eq-FIRST_LINE
unfolding ended
returns-then-c-eq-FIRST_LINE c k = rw (eq-eqb c.args.c.stage 0 c.if-c-eq-FIRST_LINE.true) (c.over_with.ensures k)

pub returns-then-c-eq-SETTING_UP : goal.returns-then-c-eq-SETTING_UP
unfolding ended
returns-then-c-eq-SETTING_UP c k =
    let a = c.args.c in
    rw (ne_eqb a.stage 0 c.if-c-eq-FIRST_LINE.false, eq-eqb a.stage 1 c.if-c-eq-SETTING_UP.true) (c.over_with-then-c-eq-SETTING_UP.ensures k)

pub returns : goal.returns
unfolding ended
returns c k =
    let a = c.args.c in
    rw (ne_eqb a.stage 0 c.if-c-eq-FIRST_LINE.false, ne_eqb a.stage 1 c.if-c-eq-SETTING_UP.false) (c.not_moved.ensures k)
