-- `show_print::put_ready` meets its contract. The invariant: what was put, and the rest of the line behind it, is the whole line. Assumes nothing.
use Prim.Native.Nat.{◌-◌, ◌*◌}
use mathlib.Core.List.{[]}
use Rattle.show_print.specs.Seen.{seen}
use Rattle.show_print.proofs.Turns.{Begun, At, ready_rest}
use Rattle.show_print.proofs.put_ready.Given as goal

abbrev pub invariant-loop-t : goal.invariant-loop-t
invariant-loop-t l = At l.ready l.i l.t
    × Begun (8 * l.i) (ready_rest (seen l.base l.ceiling l.held [] []) l.ready 0) (ready_rest (seen l.base l.ceiling l.held [] []) l.ready l.i) l.initial.out l.initial.next l.out l.next

abbrev pub decreases-loop-t : goal.decreases-loop-t
decreases-loop-t l = 32 - l.i
