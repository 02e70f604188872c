-- What the program walk reads at a time, and what it lends.
use Rattle.std.specs.Prelude.{ℕ, suc, ◌*◌}
use Rattle.text.specs.Printed.{walk_room}

-- What walk reads at a time, and the room that it lends: a line for each byte of a piece, and one more.
abbrev pub walk_piece : ℕ
walk_piece = 640

abbrev pub walk_lent : ℕ
walk_lent = walk_room * suc walk_piece
