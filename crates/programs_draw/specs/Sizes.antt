-- What draw reads at a time, what it lends, how many draws it makes at a time, and whether it still reads.
use Rattle.std.specs.Prelude.{ℕ, suc, ◌*◌, Bool, not, ◌&&◌, eqb, leb, ltb}
use Rattle.text.specs.Printed.{draw_room}
use Rattle.session_draw.specs.declared.Reader.{Reader}

-- What draw reads at a time, the room that it lends (a line for each byte of a piece, and one more), and how many
-- draws it makes at a time.
abbrev pub draw_piece : ℕ
draw_piece = 384

abbrev pub draw_lent : ℕ
draw_lent = draw_room * suc draw_piece

abbrev pub draw_lot : ℕ
draw_lot = 384

-- Whether draw still reads: it is at its first line or its setup lines, and its first line is not over 128 bytes
-- already.
abbrev pub draw_wants : Reader → Bool
draw_wants r = ltb r.run.stage 2 && not (eqb r.run.stage 0 && leb 129 r.held.count)
