-- What the functions inside this crate leave: text put at a place.
use Rattle.std.specs.Prelude.{ℕ, ◌+◌, ◌≤◌, List}
use Rattle.text.specs.Printed.{Written}

-- It stands there, and is at most so long.
pub record Put (most : ℕ) (out : List ℕ) (at : ℕ) (text after : List ℕ) (next : ℕ) : Type 0 where
  pub written : Written out at text after next
  pub within : next ≤ at + most
