-- What the check leaves of `take_lines`.
use Prim.Native.Nat.{suc, ◌*◌, ◌≤◌}
use native.Mathlib.Numerals.{add-one}
use native.Mathlib.Omega.{arith}
use borrow.Author.Tests.{not-true, not-false}
use lib.ListN.{length}
use Rattle.kernel.specs.declared.Kernel.{Kernel}
use Rattle.kernel.specs.Step.{tables}
use Rattle.session_draw.specs.declared.Reader.{Reader}
use Rattle.session_stage.specs.Stage.{as_run, as_moved}
use Rattle.session_draw.specs.Draw.{as_reader}
use Rattle.session.proofs.Cuts.{cuts_part, holds_part, cuts_none, holds_none}
use Rattle.session_draw.proofs.Drawing.{still_first, still_again, all_taken, no_room}
use Rattle.session_draw.proofs.take_lines.Goals as goal

pub returns-then-piece-ge-MANY : goal.returns-then-piece-ge-MANY
returns-then-piece-ge-MANY c =
    let a = c.args in
    let w0 : Reader = as_reader (tables a.base.now a.ready.now a.delayed.now a.held.now a.way.now a.until.now a.ceiling.now a.waiter.now a.clock.now a.started.now) a.course a.kept in
    no_room w0 a.piece.now a.out.now (omega (arith, c.if-piece-ge-MANY.true))

pub returns-then-out-piece : goal.returns-then-out-piece
returns-then-out-piece c =
    let a = c.args in
    let w0 : Reader = as_reader (tables a.base.now a.ready.now a.delayed.now a.held.now a.way.now a.until.now a.ceiling.now a.waiter.now a.clock.now a.started.now) a.course a.kept in
    no_room w0 a.piece.now a.out.now (omega (arith, c.if-out-piece.true))

pub loop-left-init : goal.loop-left-init
loop-left-init c =
    let a = c.args in
    let w0 : Reader = as_reader (tables a.base.now a.ready.now a.delayed.now a.held.now a.way.now a.until.now a.ceiling.now a.waiter.now a.clock.now a.started.now) a.course a.kept in
    let o : 192 * suc (length a.piece.now) ≤ length a.out.now = omega (arith, c.if-out-piece.false) in
    (rw add-one (still_first w0 a.piece.now a.out.now o), o)

pub returns-then-not-cut : goal.returns-then-not-cut
returns-then-not-cut c =
    let a = c.args in
    let w0 : Reader = as_reader (tables a.base.now a.ready.now a.delayed.now a.held.now a.way.now a.until.now a.ceiling.now a.waiter.now a.clock.now a.started.now) a.course a.kept in
    let cut = c.next_line-cut in
    let lp = c.loop-left in
    let k : Kernel = tables lp.base lp.ready lp.delayed lp.held lp.way lp.until lp.ceiling lp.waiter lp.clock lp.started in
    let p = a.piece.now in
    let o = c.loop-left-test.true in
    let n = not-true cut.result.whole c.if-not-cut.true in
    all_taken w0 p a.out.now (as_run k lp.course) lp.kept lp.from lp.at lp.left lp.out lp.invariant.0
    cut.result.held
    (cuts_part lp.kept p lp.from cut.result cut.ensures lp.left o n)
    (holds_part lp.kept p lp.from cut.result cut.ensures lp.left o n) lp.invariant.1

pub overflow_sub-left : goal.overflow_sub-left
overflow_sub-left c =
    omega (arith, c.loop-left-test.true)

pub loop-left-smaller : goal.loop-left-smaller
loop-left-smaller c =
    omega (arith, c.loop-left-test.true)

pub loop-left-preserved : goal.loop-left-preserved
loop-left-preserved c =
    let a = c.args in
    let w0 : Reader = as_reader (tables a.base.now a.ready.now a.delayed.now a.held.now a.way.now a.until.now a.ceiling.now a.waiter.now a.clock.now a.started.now) a.course a.kept in
    let put = c.put_shown-at in
    let cut = c.next_line-cut in
    let lp = c.loop-left in
    let k : Kernel = tables lp.base lp.ready lp.delayed lp.held lp.way lp.until lp.ceiling lp.waiter lp.clock lp.started in (
      still_again w0 a.piece.now a.out.now (as_run k lp.course) lp.kept lp.from lp.at lp.left
          lp.out lp.invariant.0
          cut.result cut.ensures put.result (as_moved _ c.take_line-h.result) put.new.out c.held_none-kept.result c.take_line-h.ensures
          put.ensures.0 put.ensures.1
          c.held_none-kept.ensures c.loop-left-test.true (not-false cut.result.whole c.if-not-cut.false),
      lp.invariant.1,
    )

pub returns : goal.returns
returns c =
    let a = c.args in
    let w0 : Reader = as_reader (tables a.base.now a.ready.now a.delayed.now a.held.now a.way.now a.until.now a.ceiling.now a.waiter.now a.clock.now a.started.now) a.course a.kept in
    let lp = c.loop-left in
    let k : Kernel = tables lp.base lp.ready lp.delayed lp.held lp.way lp.until lp.ceiling lp.waiter lp.clock lp.started in
    let p = a.piece.now in
    all_taken w0 p a.out.now (as_run k lp.course) lp.kept lp.from lp.at lp.left lp.out lp.invariant.0
    lp.kept
    (cuts_none lp.kept p lp.from lp.left c.loop-left-test.false)
    (holds_none lp.kept p lp.from lp.left c.loop-left-test.false) lp.invariant.1
