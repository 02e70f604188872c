-- The table of the ready line and the line of the rules: the front is the same. Assumes nothing.
use Prim.Native.Nat.{ℕ}
use mathlib.Core.Path.{◌≡◌, refl}
use mathlib.Core.Bool.{Bool, true, false}
use mathlib.Core.List.{List, [], ◌∷◌}
use lib.Dec.{eqb}
use borrow.Author.Tests.{eqb-true}
use Rattle.rules.specs.Line.{front}
use Rattle.kernel_ready.specs.Ready.{with_idle, runner_in}

-- who is in front of the table is in front of the line
pub front_idle : (l : List ℕ) → front 0 (with_idle l) ≡ runner_in l
unfolding runner_in
front_idle [] = refl
front_idle (x ∷ l) = go (eqb x 0) refl
  where
    go : (b : Bool) → eqb x 0 ≡ b → front 0 (with_idle (x ∷ l)) ≡ x
    go true e = rw (e, eqb-true x 0 e)
    go false e = rw e
