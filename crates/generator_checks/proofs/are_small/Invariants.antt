-- `generator_checks::are_small` meets its contract. The invariant: the test of all is that of the weights passed and that of the rest. Assumes nothing.
use Prim.Native.Nat.{◌-◌, ◌≤◌}
use mathlib.Core.Path.{◌≡◌}
use mathlib.Core.Bool.{◌&&◌}
use lib.Dec.{leb}
use lib.ListN.{drop}
use Rattle.rules.specs.Line.{every}
use Rattle.generator_checks.proofs.are_small.Given as goal

abbrev pub invariant-loop-i : goal.invariant-loop-i
invariant-loop-i l = (l.i ≤ 8) × (every (λ x. leb x 100) l.w ≡ l.small && every (λ x. leb x 100) (drop l.i l.w))

abbrev pub decreases-loop-i : goal.decreases-loop-i
decreases-loop-i l = 8 - l.i
