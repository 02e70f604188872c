-- No line that is printed, and no header, is longer than the room that is asked for it: a decimal has at most 20 digits. Assumes nothing.
use Prim.Native.Nat.{◌≤◌}
use native.Mathlib.Omega.{arith}
use lib.ListN.{length, length-append}
use Rattle.decimal.proofs.BothWays.{decimal_most}
use Rattle.text.specs.declared.Row.{Row}
use Rattle.text.specs.Printed.{answer_fields, walk_line, draw_line, walk_header, draw_header, header_room, walk_room, draw_room}

answer_short : (r : Row) → length (answer_fields r) ≤ 84
unfolding answer_fields
answer_short r =
    simp length-append
    (omega (arith, decimal_most r.code, decimal_most r.running, decimal_most r.released, decimal_most r.clock))

pub walk_short : (r : Row) → length (walk_line r) ≤ walk_room
unfolding walk_line
walk_short r = simp length-append (omega (arith, decimal_most r.n, decimal_most r.op, answer_short r))

pub draw_short : (r : Row) → length (draw_line r) ≤ draw_room
unfolding draw_line
draw_short r =
    simp length-append
    (omega (arith, decimal_most r.n, decimal_most r.op, decimal_most r.a, decimal_most r.b, decimal_most r.value, answer_short r))

pub walk_header_short : length walk_header ≤ header_room
unfolding walk_header
walk_header_short = omega arith

pub draw_header_short : length draw_header ≤ header_room
unfolding draw_header
draw_header_short = omega arith
