-- A number of two halves of 32 bits: the same halves, the same number. Assumes nothing.
use Prim.Native.Nat.{ℕ, ◌+◌, ◌*◌}
use mathlib.Core.Path.{◌≡◌}

pub same_halves : {m n x y : ℕ} → m ≡ n → x ≡ y → m + 4294967296 * x ≡ n + 4294967296 * y
same_halves p q = cc
