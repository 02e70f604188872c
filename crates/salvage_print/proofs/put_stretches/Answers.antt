-- What the check leaves of `put_stretches`.
use Rattle.salvage_print.proofs.Behind.{all_left, less_left, none_left}
use Rattle.salvage_print.proofs.put_stretches.Goals as goal

pub loop-left-init : goal.loop-left-init
loop-left-init c = all_left _ _

pub loop-left-preserved : goal.loop-left-preserved
loop-left-preserved c =
    let l = c.loop-left in less_left _ _ l.out l.at l.left.now _ _ c.in-len2-up.len_at_least l.invariant c.put_stretch-at.ensures

pub returns : goal.returns
returns c = let l = c.loop-left in none_left _ _ l.out l.at l.left.now l.invariant c.in_default.len_below
