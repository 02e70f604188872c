-- What the program walk lends is room enough: for a line for each byte of a piece and one more. (That its buffers are so long: crate programs_walk, `work`.)
-- Assumes nothing.
use Prim.Native.Nat.{ℕ, suc, ◌*◌, ◌≤◌}
use native.Mathlib.Omega.{arith}
use mathlib.Core.Path.{◌≡◌}
use mathlib.Core.List.{List}
use lib.ListN.{length}
use Rattle.session_walk_text.specs.Sizes.{walk_piece, walk_lent}

pub walk_roomy : (p out : List ℕ) → length p ≤ walk_piece → walk_lent ≡ length out → 128 * suc (length p) ≤ length out
walk_roomy p out o e = omega (arith, o, e)
