-- What the check leaves of `drop_front`.
use Rattle.std.proofs.Common.{◌≡◌, length}
use Rattle.kernel_line.proofs.Laws.{front_off}
use Rattle.kernel_front.proofs.drop_front.Goals as goal

pub returns : goal.returns
returns c =
    let l = c.args.line.now in
    let n : length l ≡ 32 = c.told-line in
    rw (c.copy_within.ensures.after, n) (front_off l n)
