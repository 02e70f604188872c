-- `put_tail` meets its contract: placing is inserting where the test stops. Assumes nothing.
use Rattle.kernel_line.proofs.Laws.{place_lead}
use Rattle.kernel_ready.specs.Ready.{lower, tailed}
use Rattle.kernel_ready.proofs.put_tail.Goals as goal

pub returns : goal.returns
unfolding tailed
returns c =
    let a = c.args in
    let stop = lower a.base.now a.ceiling a.held.now a.p in
    rw (c.put_at.ensures, c.front_level-i.ensures, place_lead stop a.t.0 a.ready.now)
