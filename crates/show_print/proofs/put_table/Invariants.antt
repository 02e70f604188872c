-- `show_print::put_table` meets its contract. The invariant: the cells so far are put. Assumes nothing.
use Prim.Native.Nat.{◌-◌, ◌*◌, ◌≤◌}
use Rattle.queue_chip.specs.Queue.{queue}
use Rattle.text_print.specs.Put.{Put}
use Rattle.show_text.specs.Block.{each, cell_text}
use Rattle.show_print.proofs.put_table.Given as goal

abbrev pub invariant-loop-t : goal.invariant-loop-t
invariant-loop-t l = (l.t ≤ 32) × Put (50 * l.t) l.initial.out l.initial.next (each l.t (cell_text (queue 0 0 0 l.times l.ages))) l.out l.next

abbrev pub decreases-loop-t : goal.decreases-loop-t
decreases-loop-t l = 32 - l.t
