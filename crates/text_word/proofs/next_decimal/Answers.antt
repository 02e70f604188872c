-- `text_word::next_decimal` meets its contract: the line ends there, no blank stands there, or a blank and a word. Assumes nothing.
use native.Mathlib.Omega.{arith}
use Rattle.text.proofs.Scan.{place_within}
use Rattle.text_word.proofs.Places.{at_the_end, at_no_blank, at_blank}
use Rattle.text_word.proofs.next_decimal.Goals as goal

pub returns-then-line-at : goal.returns-then-line-at
returns-then-line-at c = let a = c.args in at_the_end a.line.now a.at a.most c.if-line-at.true

pub returns-then-line-at-ne32 : goal.returns-then-line-at-ne32
returns-then-line-at-ne32 c =
    let a = c.args in
    at_no_blank a.line.now a.at a.most c.if-line-at.false c.if-line-at-ne32.true

pub slice_bounds-number-end : goal.slice_bounds-number-end
slice_bounds-number-end c =
    let s = c.args.line.now in
    omega (arith, place_within 32 s _ c.find-end.result c.find-end.ensures (omega arith))

pub returns : goal.returns
returns c =
    let end = c.find-end in
    let blank = c in
    let a = blank.args in
    let h = blank.if-line-at.false in
    let within = place_within 32 a.line.now _ end.result end.ensures (omega (arith, h)) in
    at_blank a.line.now a.at a.most end.result c.number-r.result h blank.if-line-at-ne32.false end.ensures within c.number-r.ensures
