-- `session_walk::finish` meets its contract: nothing is held, or one c. Assumes nothing.
use native.Mathlib.Omega.{arith}
use mathlib.Core.Path.{◌≡◌}
use borrow.Author.Rules.{rules}
use lib.ListN.{length}
use Rattle.session_walk.proofs.Closing.{nothing_left, one_left}
use Rattle.session_walk.proofs.finish.Goals as goal

pub returns-then-begun-eq0 : goal.returns-then-begun-eq0
returns-then-begun-eq0 c = let a = c.args in nothing_left a.w a.out.now c.if-begun-eq0.true

pub returns : goal.returns
returns c =
    let l : length c.args.w.held.bytes ≡ 129 = search rules in
    one_left c.args.w c.args.out.now c.following-n.result c.put_walk_line.result c.held_command-spoken.result
    c.carry_out-row.result c.put_walk_line.new.out c.following-n.ensures c.held_command-spoken.ensures
    c.carry_out-row.ensures.1
    c.put_walk_line.ensures.0 c.put_walk_line.ensures.1 c.if-begun-eq0.false (omega arith)
