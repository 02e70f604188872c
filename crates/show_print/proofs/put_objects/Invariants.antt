-- `show_print::put_objects` meets its contract. The invariant: the objects so far are put. Assumes nothing.
use Prim.Native.Nat.{◌-◌, ◌*◌, ◌≤◌}
use mathlib.Core.List.{[]}
use Rattle.text_print.specs.Put.{Put}
use Rattle.show_text.specs.Block.{each, object_text}
use Rattle.show_print.specs.Seen.{seen}
use Rattle.show_print.proofs.put_objects.Given as goal

abbrev pub invariant-loop-o : goal.invariant-loop-o
invariant-loop-o l = (l.o ≤ 8) × Put (55 * l.o) l.initial.out l.initial.next (each l.o (object_text (seen [] l.ceiling l.held l.way l.waiter))) l.out l.next

abbrev pub decreases-loop-o : goal.decreases-loop-o
decreases-loop-o l = 8 - l.o
