-- What the program show lends is room enough: for an entry for each byte of a piece and one more. (That its buffers are so long: crate programs_show, `work`.)
-- Assumes nothing.
use Prim.Native.Nat.{ℕ, suc, ◌*◌, ◌≤◌}
use native.Mathlib.Omega.{arith}
use mathlib.Core.Path.{◌≡◌}
use mathlib.Core.List.{List}
use lib.ListN.{length}
use Rattle.show_text.specs.Show.{show_piece, show_lent}

pub show_roomy : (p out : List ℕ) → length p ≤ show_piece → show_lent ≡ length out → 4096 * suc (length p) ≤ length out
show_roomy p out o e = omega (arith, o, e)
