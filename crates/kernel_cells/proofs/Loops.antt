-- What one turn of a loop of the test does: a condition, gathered over all tasks or objects. Assumes nothing.
use Prim.Native.Nat.{ℕ, ◌+◌}
use native.Mathlib.Numerals.{add-one}
use mathlib.Core.Path.{◌≡◌}
use mathlib.Core.Bool.{Bool, ◌&&◌}
use Rattle.rules.specs.Line.{all_below}

-- a condition of each number below n, gathered
pub gather : (f : ℕ → Bool) (n : ℕ) (b : Bool) → b ≡ all_below n f → f n && b ≡ all_below (n + 1) f
unfolding all_below
gather f n b e = rw (add-one, e)
