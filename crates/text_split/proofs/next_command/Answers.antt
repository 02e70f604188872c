-- `text_split::next_command` meets its contract: a line that lies whole in the piece, one that was held, or none yet. Assumes nothing.
use native.Mathlib.Omega.{arith}
use mathlib.Core.Path.{◌≡◌}
use borrow.Author.Rules.{rules}
use lib.ListN.{length}
use Rattle.text.proofs.CommandsWhole.{end_onward, next_whole, next_part, next_at_once}
use Rattle.text_split.proofs.next_command.Goals as goal

pub slice_bounds-command-count : goal.slice_bounds-command-count
slice_bounds-command-count c = let a = c.args in omega (arith, c.line_end-end.ensures, end_onward a.s.now a.at)

pub slice_bounds-command-start : goal.slice_bounds-command-start
slice_bounds-command-start c = let a = c.args in omega (arith, c.line_end-end.ensures, end_onward a.s.now a.at)

pub returns-then-end-s : goal.returns-then-end-s
returns-then-end-s c =
    let a = c.args in
    let l : length a.h.bytes ≡ 129 = search rules in
    next_at_once a.h a.s.now a.at c.line_end-end.result c.command-spoken.result c.held_none-held.result
    l c.if-count-eq0.true c.line_end-end.ensures c.if-end-s.true
    c.command-spoken.ensures c.held_none-held.ensures

pub returns-then-cut : goal.returns-then-cut
returns-then-cut c =
    let a = c.args in
    next_whole a.h a.s.now a.at c.next_line-cut.result c.held_command-spoken.result c.held_none-held-then-cut.result
    c.next_line-cut.ensures c.if-cut.true c.held_command-spoken.ensures c.held_none-held-then-cut.ensures

pub returns : goal.returns
returns c =
    let a = c.args in
    next_part a.h a.s.now a.at c.next_line-cut.result c.no_command-spoken.result
    c.next_line-cut.ensures c.if-cut.false c.no_command-spoken.ensures
