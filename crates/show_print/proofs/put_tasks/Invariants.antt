-- `show_print::put_tasks` meets its contract. The invariant: the tasks so far are put. Assumes nothing.
use Prim.Native.Nat.{◌-◌, ◌*◌, ◌≤◌}
use mathlib.Core.List.{[]}
use Rattle.text_print.specs.Put.{Put}
use Rattle.show_text.specs.Block.{each, task_text}
use Rattle.show_print.specs.Seen.{seen}
use Rattle.show_print.proofs.put_tasks.Given as goal

abbrev pub invariant-loop-t : goal.invariant-loop-t
invariant-loop-t l = (l.t ≤ 32) × Put (8 * l.t) l.initial.out l.initial.next (each l.t (task_text (seen l.base [] [] [] []))) l.out l.next

abbrev pub decreases-loop-t : goal.decreases-loop-t
decreases-loop-t l = 32 - l.t
