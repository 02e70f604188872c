-- `show_print::put_pending` meets its contract. The invariant: the tasks so far are put. Assumes nothing.
use Prim.Native.Nat.{◌-◌, ◌*◌, ◌≤◌}
use Rattle.text_print.specs.Put.{Put}
use Rattle.show_text.specs.Block.{each, owed_text}
use Rattle.show_print.proofs.put_pending.Given as goal

abbrev pub invariant-loop-t : goal.invariant-loop-t
invariant-loop-t l = (l.t ≤ 32) × Put (4 * l.t) l.initial.out l.initial.next (each l.t (owed_text l.pending)) l.out l.next

abbrev pub decreases-loop-t : goal.decreases-loop-t
decreases-loop-t l = 32 - l.t
