-- `session_show::finish` meets its contract: nothing is held, or one line. Assumes nothing.
use native.Mathlib.Omega.{arith}
use mathlib.Core.Path.{◌≡◌}
use borrow.Author.Rules.{rules}
use lib.ListN.{length}
use Rattle.session_show.proofs.Carrying.{entry_same}
use Rattle.session_show.proofs.Closing.{nothing_left, one_left}
use Rattle.session_show.proofs.finish.Goals as goal

pub returns-then-begun-eq0 : goal.returns-then-begun-eq0
returns-then-begun-eq0 c = let a = c.args in nothing_left a.only a.w a.out.now c.if-begun-eq0.true

pub returns : goal.returns
returns c =
    let put = c.put_wanted in
    let a = c.args in
    let l : length c.args.w.held.bytes ≡ 129 = search rules in
    one_left a.only a.w a.out.now c.following-n.result put.result c.held_command-spoken.result put.new.out _
    c.following-n.ensures c.held_command-spoken.ensures put.ensures
    (entry_same a.w.state a.w.queue c.following-n.result c.held_command-spoken.result a.only c.carry_out-done.result
    c.carry_out-done.ensures)
    c.if-begun-eq0.false (omega (arith, l))
