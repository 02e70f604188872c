-- What `work` lends is room enough: for a line for each byte of a piece and one more. Where a number of the code changes, this fact is gone.
-- Assumes nothing.
use Prim.Native.Nat.{ℕ, suc, ◌*◌, ◌≤◌}
use native.Mathlib.Omega.{arith}
use mathlib.Core.Path.{◌≡◌}
use mathlib.Core.List.{List}
use lib.ListN.{length}
use Rattle.programs_draw.specs.Sizes.{draw_piece, draw_lent}

pub draw_roomy : (p out : List ℕ) → length p ≤ draw_piece → draw_lent ≡ length out → 192 * suc (length p) ≤ length out
draw_roomy p out o e = omega (arith, o, e)
