-- `session_show::feed` meets its contract: proofs/Feeding has the invariant, and what a turn and each way out do. Assumes nothing.
use Prim.Native.Nat.{suc, ◌*◌, ◌≤◌}
use native.Mathlib.Numerals.{add-one}
use native.Mathlib.Omega.{arith}
use mathlib.Core.Path.{refl, ◌∙◌}
use borrow.Author.Tests.{not-true, not-false}
use lib.ListN.{length}
use Rattle.text.specs.Lines.{cut_of}
use Rattle.session.proofs.Cuts.{next_whole, next_part, cuts_part, holds_part, cuts_none, holds_none}
use Rattle.session_show.proofs.Feeding.{still_first, still_again, all_shown, no_room}
use Rattle.session_show.proofs.feed.Goals as goal

pub returns-then-out-piece : goal.returns-then-out-piece
returns-then-out-piece c =
    let a = c.args in
    no_room a.only a.w a.piece.now a.out.now (omega (arith, c.if-out-piece.true))

pub loop-turns-init : goal.loop-turns-init
loop-turns-init c =
    let a = c.args in
    let o : 4096 * suc (length a.piece.now) ≤ length a.out.now = omega (arith, c.if-out-piece.false) in
    (rw add-one (still_first a.only a.w a.piece.now a.out.now o), o)

pub shape_of-out-then-not-c : goal.shape_of-out-then-not-c
shape_of-out-then-not-c c = c.loop-turns.invariant.0.filling.size

pub returns-then-not-c : goal.returns-then-not-c
returns-then-not-c c =
    let x = c.next_command-c in
    let lp = c.loop-turns in
    let a = c.args in
    let p = a.piece.now in
    let o = c.loop-turns-test.true in
    let cut = cut_of lp.kept p lp.from in
    let part = next_part lp.kept p lp.from x.result x.ensures (not-true x.result.whole c.if-not-c.true) in
    rw c.stood.ensures
    (all_shown a.only a.w p a.out.now lp.state lp.queue lp.kept lp.n lp.from lp.at lp.turns lp.out lp.invariant.0
    x.result.held
    (cuts_part lp.kept p lp.from cut refl lp.turns o part.0)
    (holds_part lp.kept p lp.from cut refl lp.turns o part.0 ∙ part.1) lp.invariant.1)

pub overflow_sub-turns : goal.overflow_sub-turns
overflow_sub-turns c = omega (arith, c.loop-turns-test.true)

pub loop-turns-smaller : goal.loop-turns-smaller
loop-turns-smaller c = omega (arith, c.loop-turns-test.true)

pub loop-turns-preserved : goal.loop-turns-preserved
loop-turns-preserved c =
    let put = c.put_wanted-at in
    let told = c.carry_out-done in
    let x = c.next_command-c in
    let lp = c.loop-turns in
    let a = c.args in
    let p = a.piece.now in
    let w = next_whole lp.kept p lp.from x.result x.ensures (not-false x.result.whole c.if-not-c.false) in (
      still_again a.only a.w p a.out.now lp.state lp.queue lp.kept lp.n lp.from lp.at lp.turns lp.out lp.invariant.0
          (cut_of lp.kept p lp.from) refl c.following-n.result put.result x.result.next x.result.spoken told.result put.new.out
          x.result.held w.next c.following-n.ensures w.command told.ensures w.held put.ensures c.loop-turns-test.true w.whole,
      lp.invariant.1,
    )

pub shape_of-out : goal.shape_of-out
shape_of-out c = c.loop-turns.invariant.0.filling.size

pub returns : goal.returns
returns c =
    let lp = c.loop-turns in
    let a = c.args in
    let left = c.loop-turns-test.false in
    rw c.stood-2.ensures
    (all_shown a.only a.w a.piece.now a.out.now lp.state lp.queue lp.kept lp.n lp.from lp.at lp.turns lp.out
    lp.invariant.0 lp.kept
    (cuts_none lp.kept a.piece.now lp.from lp.turns left)
    (holds_none lp.kept a.piece.now lp.from lp.turns left) lp.invariant.1)
