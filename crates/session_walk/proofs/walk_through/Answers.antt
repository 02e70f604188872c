-- What the check leaves of `walk_through`.
use Prim.Native.Nat.{suc, ◌*◌, ◌≤◌}
use native.Mathlib.Numerals.{add-one}
use native.Mathlib.Omega.{arith}
use mathlib.Core.Path.{refl, ◌∙◌}
use borrow.Author.Tests.{not-true, not-false}
use lib.ListN.{length}
use Rattle.kernel.specs.declared.Kernel.{Kernel}
use Rattle.kernel.specs.Step.{tables}
use Rattle.text.specs.Lines.{cut_of}
use Rattle.session_walk_text.specs.declared.Walk.{Walk}
use Rattle.session_walk_text.specs.Walk.{standing}
use Rattle.session.proofs.Cuts.{next_whole, next_part, cuts_part, holds_part, cuts_none, holds_none}
use Rattle.session_walk.proofs.Feeding.{still_first, still_again, all_walked, no_room}
use Rattle.session_walk.proofs.walk_through.Goals as goal

pub returns-then-out-piece : goal.returns-then-out-piece
returns-then-out-piece c =
    let a = c.args in
    let w0 : Walk = standing (tables a.base.now a.ready.now a.delayed.now a.held.now a.way.now a.until.now a.ceiling.now a.waiter.now a.clock.now a.started.now) a.kept a.n in
    no_room w0 a.piece.now a.out.now (omega (arith, c.if-out-piece.true))

pub loop-left-init : goal.loop-left-init
loop-left-init c =
    let a = c.args in
    let w0 : Walk = standing (tables a.base.now a.ready.now a.delayed.now a.held.now a.way.now a.until.now a.ceiling.now a.waiter.now a.clock.now a.started.now) a.kept a.n in
    let o : 128 * suc (length a.piece.now) ≤ length a.out.now = omega (arith, c.if-out-piece.false) in
    (rw add-one (still_first w0 a.piece.now a.out.now o), o)

pub returns-then-not-c : goal.returns-then-not-c
returns-then-not-c c =
    let x = c.next_command-c in
    let lp = c.loop-left in
    let k : Kernel = tables lp.base lp.ready lp.delayed lp.held lp.way lp.until lp.ceiling lp.waiter lp.clock lp.started in
    let a = c.args in
    let w0 : Walk = standing (tables a.base.now a.ready.now a.delayed.now a.held.now a.way.now a.until.now a.ceiling.now a.waiter.now a.clock.now a.started.now) a.kept a.n in
    let o = c.loop-left-test.true in
    let p = a.piece.now in
    let cut = cut_of lp.kept p lp.from in
    let part = next_part lp.kept p lp.from x.result x.ensures (not-true x.result.whole c.if-not-c.true) in
    all_walked w0 p a.out.now k lp.kept lp.n lp.from lp.at lp.left lp.out lp.invariant.0 x.result.held
    (cuts_part lp.kept p lp.from cut refl lp.left o part.0)
    (holds_part lp.kept p lp.from cut refl lp.left o part.0 ∙ part.1) lp.invariant.1

pub loop-left-preserved : goal.loop-left-preserved
loop-left-preserved c =
    let put = c.put_walk_line-at in
    let x = c.next_command-c in
    let lp = c.loop-left in
    let k : Kernel = tables lp.base lp.ready lp.delayed lp.held lp.way lp.until lp.ceiling lp.waiter lp.clock lp.started in
    let a = c.args in
    let w0 : Walk = standing (tables a.base.now a.ready.now a.delayed.now a.held.now a.way.now a.until.now a.ceiling.now a.waiter.now a.clock.now a.started.now) a.kept a.n in
    let p = a.piece.now in
    let w = next_whole lp.kept p lp.from x.result x.ensures (not-false x.result.whole c.if-not-c.false) in (
      still_again w0 p a.out.now k lp.kept lp.n lp.from lp.at lp.left lp.out lp.invariant.0
          (cut_of lp.kept p lp.from) refl c.following-n.result put.result x.result.next x.result.spoken _ c.carry_out-row.result
          put.new.out
          x.result.held w.next c.following-n.ensures w.command c.carry_out-row.ensures put.ensures.0 put.ensures.1 w.held
          c.loop-left-test.true w.whole,
      lp.invariant.1,
    )

pub returns : goal.returns
returns c =
    let lp = c.loop-left in
    let k : Kernel = tables lp.base lp.ready lp.delayed lp.held lp.way lp.until lp.ceiling lp.waiter lp.clock lp.started in
    let a = c.args in
    let w0 : Walk = standing (tables a.base.now a.ready.now a.delayed.now a.held.now a.way.now a.until.now a.ceiling.now a.waiter.now a.clock.now a.started.now) a.kept a.n in
    all_walked w0 a.piece.now a.out.now k lp.kept lp.n lp.from lp.at lp.left lp.out
    lp.invariant.0 lp.kept
    (cuts_none lp.kept a.piece.now lp.from lp.left c.loop-left-test.false)
    (holds_none lp.kept a.piece.now lp.from lp.left c.loop-left-test.false) lp.invariant.1
