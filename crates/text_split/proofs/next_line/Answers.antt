-- `text_split::next_line` meets its contract: the place is past the end, a line end comes, or none does. Assumes nothing.
use native.Mathlib.Omega.{arith}
use Rattle.text.proofs.Scan.{place_within}
use Rattle.text.proofs.Holding.{past_end, cut_whole, cut_part}
use Rattle.text_split.proofs.next_line.Goals as goal

pub returns-then-s-at : goal.returns-then-s-at
returns-then-s-at c = let a = c.args in rw (← c.hold-held.ensures) at (past_end a.h a.s.now a.at c.if-s-at.true)

pub slice_bounds-hold-end-2 : goal.slice_bounds-hold-end-2
slice_bounds-hold-end-2 c =
    let a = c.args in
    omega (arith, place_within 10 a.s.now a.at c.find-end.result c.find-end.ensures c.if-s-at.false)

pub returns-then-end-s : goal.returns-then-end-s
returns-then-end-s c =
    let a = c.args in
    cut_whole a.h a.s.now a.at c.find-end.result c.hold-held-2.result c.find-end.ensures
    c.hold-held-2.ensures c.if-end-s.true

pub returns : goal.returns
returns c =
    let a = c.args in
    cut_part a.h a.s.now a.at c.find-end.result c.hold-held-2.result c.find-end.ensures
    c.hold-held-2.ensures c.if-end-s.false
