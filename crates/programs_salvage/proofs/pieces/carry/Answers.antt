-- What is handed over is what is kept and what is listed (proofs/Feeds).
use Rattle.std.proofs.Common.{sym}
use Rattle.std.proofs.Math.Seq.{length-take-le}
use Rattle.programs_salvage.proofs.Feeds.{stands, carried}
use Rattle.programs_salvage.proofs.pieces.carry.Goals as goal

pub slice_bounds-hand_over-end : goal.slice_bounds-hand_over-end
slice_bounds-hand_over-end g c =
    let a = c.args in
    (stands a.t a.bytes.now a.out.now a.list.now _ _ c.in_ok-fed.fed c.in_ok-fed.ensures).bytes

pub slice_bounds-hand_over-end-2 : goal.slice_bounds-hand_over-end-2
slice_bounds-hand_over-end-2 g c =
    let a = c.args in
    sym (length-take-le _ _ (stands a.t a.bytes.now a.out.now a.list.now _ _ c.in_ok-fed.fed c.in_ok-fed.ensures).bytes)

pub slice_bounds-hand_over-end-3 : goal.slice_bounds-hand_over-end-3
slice_bounds-hand_over-end-3 g c =
    let a = c.args in
    (stands a.t a.bytes.now a.out.now a.list.now _ _ c.in_ok-fed.fed c.in_ok-fed.ensures).numbers

pub slice_bounds-hand_over-end-4 : goal.slice_bounds-hand_over-end-4
slice_bounds-hand_over-end-4 g c =
    let a = c.args in
    sym (length-take-le _ _ (stands a.t a.bytes.now a.out.now a.list.now _ _ c.in_ok-fed.fed c.in_ok-fed.ensures).numbers)

pub returns : goal.returns
returns g c =
    let a = c.args in
    let f = c.in_ok-fed in
    let s = stands a.t a.bytes.now a.out.now a.list.now _ _ f.fed f.ensures in
    carried a.t a.bytes.now a.out.now a.list.now _ _ f.fed a.was _ _ f.ensures s c.hand_over-went.ensures
