-- `put_head` meets its contract: it is `put_tail` of the priority above. Assumes nothing.
use Rattle.std.proofs.Common.{◌≡◌, rules}
use Rattle.kernel_line.specs.Tables.{more}
use Rattle.kernel_ready.specs.Ready.{headed}
use Rattle.kernel_ready.proofs.put_head.Goals as goal

pub returns : goal.returns
unfolding headed
returns c = let above : c.saturating_add.result ≡ more c.args.p = search rules in rw (c.put_tail.ensures, above)
