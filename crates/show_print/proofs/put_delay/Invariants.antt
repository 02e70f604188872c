-- `show_print::put_delay` meets its contract. The invariant: what was put, and the rest of the line behind it, is the whole line. Assumes nothing.
use Prim.Native.Nat.{◌-◌, ◌*◌}
use Rattle.show_print.proofs.Turns.{Begun, At, delay_rest}
use Rattle.show_print.proofs.put_delay.Given as goal

abbrev pub invariant-loop-t : goal.invariant-loop-t
invariant-loop-t l = At l.delayed l.i l.t
    × Begun (25 * l.i) (delay_rest l.until l.delayed 0) (delay_rest l.until l.delayed l.i) l.initial.out l.initial.next l.out l.next

abbrev pub decreases-loop-t : goal.decreases-loop-t
decreases-loop-t l = 32 - l.i
