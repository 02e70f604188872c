-- What the check leaves of `bits.pending_sound`.
use mathlib.Core.Path.{◌≡◌, refl}
use native.Mathlib.Omega.{arith}
use Rattle.rules.specs.Line.{all_below}
use Rattle.kernel_state.proofs.Laws.{one_allowed, none_sound, all_sound}
use Rattle.kernel_state.proofs.bits.pending_sound.Goals as goal

pub returns-then-pending-eq0 : goal.returns-then-pending-eq0
returns-then-pending-eq0 c = let a = c.args in none_sound a.started a.base.now a.pending c.if-pending-eq0.true

pub loop-t-init : goal.loop-t-init
unfolding all_below
loop-t-init c = refl

pub loop-t-preserved : goal.loop-t-preserved
loop-t-preserved c =
    let a = c.args in
    rw (c.has.ensures, c.of_task.ensures) (one_allowed a.started a.base.now a.pending c.loop-t.t c.loop-t.fit c.loop-t.invariant)

pub returns : goal.returns
returns c =
    let a = c.args in
    let end : c.loop-t.t ≡ 32 = omega arith in
    all_sound a.started a.base.now a.pending c.ranges.pending.fits c.loop-t.fit (rw end at c.loop-t.invariant)
