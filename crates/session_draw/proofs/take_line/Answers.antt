-- `session_draw::take_line` meets its contract: by the stage. Only a setup line touches the tables. Assumes nothing.
use mathlib.Core.Path.{◌∙◌, ap}
use borrow.Author.Tests.{eq-eqb, ne_eqb}
use Rattle.kernel.specs.declared.Kernel.{Kernel}
use Rattle.kernel.specs.Step.{tables}
use Rattle.session_stage.specs.Stage.{as_run, moved, opened, set_up}
use Rattle.session_draw.proofs.Drawing.{is_set_up}
use Rattle.session_draw.proofs.take_line.Goals as goal

pub returns-then-c-eq-FIRST_LINE : goal.returns-then-c-eq-FIRST_LINE
unfolding moved
returns-then-c-eq-FIRST_LINE c =
    let r = c.args in
    let k : Kernel = tables r.base.now r.ready.now r.delayed.now r.held.now r.way.now r.until.now r.ceiling.now r.waiter.now r.clock.now r.started.now in
    let a = r.c in
    rw (eq-eqb a.stage 0 c.if-c-eq-FIRST_LINE.true)
    (c.opened.ensures k ∙ ap (opened (as_run k a)) c.held_first_line.ensures)

pub returns-then-c-ne-SETTING_UP : goal.returns-then-c-ne-SETTING_UP
unfolding moved
returns-then-c-ne-SETTING_UP c =
    let r = c.args in
    let k : Kernel = tables r.base.now r.ready.now r.delayed.now r.held.now r.way.now r.until.now r.ceiling.now r.waiter.now r.clock.now r.started.now in
    let a = r.c in
    rw (ne_eqb a.stage 0 c.if-c-eq-FIRST_LINE.false, ne_eqb a.stage 1 c.if-c-ne-SETTING_UP.true) (c.not_moved.ensures k)

pub returns : goal.returns
unfolding moved
returns c =
    let r = c.args in
    let k : Kernel = tables r.base.now r.ready.now r.delayed.now r.held.now r.way.now r.until.now r.ceiling.now r.waiter.now r.clock.now r.started.now in
    let a = r.c in
    let up = is_set_up k _ a c.following-n.result c.carry_out-row.result c.following-n.ensures c.held_command-spoken.result
    c.carry_out-row.ensures in
    rw (ne_eqb a.stage 0 c.if-c-eq-FIRST_LINE.false, eq-eqb a.stage 1 c.if-c-ne-SETTING_UP.false)
    (c.set_up.ensures _ ∙ up ∙ ap (set_up (as_run k a)) c.held_command-spoken.ensures)
