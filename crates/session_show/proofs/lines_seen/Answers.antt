-- `session_show::lines_seen` meets its contract: a line that has begun counts. Assumes nothing.
use native.Mathlib.Omega.{arith}
use mathlib.Core.Path.{◌≡◌}
use borrow.Author.Rules.{rules}
use lib.ListN.{length}
use Rattle.session_show.proofs.Closing.{none_begun, one_begun}
use Rattle.session_show.proofs.lines_seen.Goals as goal

pub returns-then-begun-eq0 : goal.returns-then-begun-eq0
returns-then-begun-eq0 c = none_begun c.args.w c.if-begun-eq0.true

pub returns : goal.returns
returns c =
    let l : length c.args.w.held.bytes ≡ 129 = search rules in
    one_begun c.args.w c.following.result c.following.ensures c.if-begun-eq0.false (omega (arith, l))
