-- `bits::pending_sound` meets its contract. The invariant: what is pending for the tasks passed is sound. Assumes nothing.
use mathlib.Core.Path.{◌≡◌}
use Rattle.rules.specs.Line.{all_below}
use Rattle.kernel_state.proofs.Laws.{allowed}
use Rattle.kernel_state.proofs.bits.pending_sound.Given as goal

abbrev pub invariant-loop-t : goal.invariant-loop-t
invariant-loop-t l = l.fit ≡ all_below l.t (allowed l.started l.base l.pending)
