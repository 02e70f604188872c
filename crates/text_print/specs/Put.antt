-- What a function leaves that puts text at a place, for those that put more behind it.
use Rattle.std.specs.Prelude.{ℕ, ◌+◌, ◌≤◌, ◌≡◌, List, length}
use Rattle.text.specs.Printed.{Written}

-- The text stands there, is at most so long, and the buffer is as long as it was.
pub record Put (most : ℕ) (out : List ℕ) (at : ℕ) (text after : List ℕ) (next : ℕ) : Type 0 where
  pub written : Written out at text after next
  pub within : next ≤ at + most
  pub long : length after ≡ length out
