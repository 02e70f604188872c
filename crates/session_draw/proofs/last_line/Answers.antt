-- `session_draw::last_line` meets its contract: no line has begun, or its line end is fed. Assumes nothing.
use mathlib.Core.Path.{◌≡◌}
use lib.ListN.{length}
use borrow.Author.Rules.{rules}
use Rattle.session_draw.proofs.Drawing.{none_begun, one_begun}
use Rattle.session_draw.proofs.last_line.Goals as goal

pub returns-then-held-eq0 : goal.returns-then-held-eq0
returns-then-held-eq0 c = let a = c.args in none_begun a.r a.out.now c.if-held-eq0.true

pub returns : goal.returns
returns c =
    let a = c.args in
    let fed = c.feed in
    let l : length a.r.held.bytes ≡ 129 = search rules in
    one_begun a.r a.out.now c.if-held-eq0.false l c.requires fed.result fed.new.out fed.ensures
