-- What the check leaves of `draw_through`.
use Prim.Native.Nat.{◌*◌, ◌≤◌}
use native.Mathlib.Omega.{arith}
use lib.ListN.{length}
use Rattle.kernel.specs.declared.Kernel.{Kernel}
use Rattle.kernel.specs.Step.{tables}
use Rattle.session_stage.specs.declared.DrawRun.{DrawRun}
use Rattle.session_stage.specs.Stage.{as_run}
use Rattle.session_draw.proofs.Drawing.{going_first, going_again, all_drawn, no_room_for, is_idle, not_idle, none_asked, is_drawn}
use Rattle.session_draw.proofs.draw_through.Goals as goal

pub returns-then-most-ge-MANY : goal.returns-then-most-ge-MANY
returns-then-most-ge-MANY c =
    let a = c.args in
    let w0 : DrawRun = as_run (tables a.base.now a.ready.now a.delayed.now a.held.now a.way.now a.until.now a.ceiling.now a.waiter.now a.clock.now a.started.now) a.course in
    no_room_for w0 a.most a.out.now (omega (arith, c.if-most-ge-MANY.true))

pub returns-then-out-most : goal.returns-then-out-most
returns-then-out-most c =
    let a = c.args in
    let w0 : DrawRun = as_run (tables a.base.now a.ready.now a.delayed.now a.held.now a.way.now a.until.now a.ceiling.now a.waiter.now a.clock.now a.started.now) a.course in
    no_room_for w0 a.most a.out.now (omega (arith, c.if-out-most.true))

pub loop-turns-init : goal.loop-turns-init
loop-turns-init c =
    let a = c.args in
    let w0 : DrawRun = as_run (tables a.base.now a.ready.now a.delayed.now a.held.now a.way.now a.until.now a.ceiling.now a.waiter.now a.clock.now a.started.now) a.course in
    let o : 192 * a.most ≤ length a.out.now = omega (arith, c.if-out-most.false) in
    (going_first w0 a.most a.out.now o, o)

pub returns-then-course : goal.returns-then-course
returns-then-course c =
    let a = c.args in
    let w0 : DrawRun = as_run (tables a.base.now a.ready.now a.delayed.now a.held.now a.way.now a.until.now a.ceiling.now a.waiter.now a.clock.now a.started.now) a.course in
    let lp = c.loop-turns in
    let k : Kernel = tables lp.base lp.ready lp.delayed lp.held lp.way lp.until lp.ceiling lp.waiter lp.clock lp.started in
    let d = as_run k lp.course in
    all_drawn w0 a.most a.out.now d lp.at lp.turns lp.out lp.invariant.0 (is_idle d c.if-course.true lp.turns)
    lp.invariant.1

pub past-course-requires : goal.past-course-requires
past-course-requires c =
    let lp = c.loop-turns in
    (not_idle lp.course.stage lp.course.left c.if-course.false).1

pub overflow_sub-turns : goal.overflow_sub-turns
overflow_sub-turns c =
    omega (arith, c.loop-turns-test.true)

pub loop-turns-smaller : goal.loop-turns-smaller
loop-turns-smaller c =
    omega (arith, c.loop-turns-test.true)

pub loop-turns-preserved : goal.loop-turns-preserved
loop-turns-preserved c =
    let a = c.args in
    let w0 : DrawRun = as_run (tables a.base.now a.ready.now a.delayed.now a.held.now a.way.now a.until.now a.ceiling.now a.waiter.now a.clock.now a.started.now) a.course in
    let put = c.put_draw_line-at in
    let step = c.draw_and_step-x in
    let lp = c.loop-turns in
    let k : Kernel = tables lp.base lp.ready lp.delayed lp.held lp.way lp.until lp.ceiling lp.waiter lp.clock lp.started in
    let draws = not_idle lp.course.stage lp.course.left c.if-course.false in
    let row = rw c.spoken.ensures at c.row_of.ensures in
    let drawn = is_drawn k _ lp.course c.following-n.result c.row_of.result c.following-n.ensures step.result draws.0
    draws.1 step.ensures row in (
      rw c.past-course.ensures
          (going_again w0 a.most a.out.now (as_run k lp.course) lp.at lp.turns lp.out lp.invariant.0
          put.result _ put.new.out
          drawn put.ensures.0 put.ensures.1 c.loop-turns-test.true),
      lp.invariant.1,
    )

pub returns : goal.returns
returns c =
    let a = c.args in
    let w0 : DrawRun = as_run (tables a.base.now a.ready.now a.delayed.now a.held.now a.way.now a.until.now a.ceiling.now a.waiter.now a.clock.now a.started.now) a.course in
    let lp = c.loop-turns in
    let k : Kernel = tables lp.base lp.ready lp.delayed lp.held lp.way lp.until lp.ceiling lp.waiter lp.clock lp.started in
    let d = as_run k lp.course in
    all_drawn w0 a.most a.out.now d lp.at lp.turns lp.out lp.invariant.0
    (none_asked d lp.turns c.loop-turns-test.false) lp.invariant.1
