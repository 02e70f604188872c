-- `generator_lent::choice_from` meets its contract. The invariant: the choice is the one behind the draws spent, from the seed that they left. Assumes nothing.
use Prim.Native.Nat.{◌-◌, ◌≤◌}
use mathlib.Core.Path.{◌≡◌}
use Rattle.generator_draws.specs.Below.{choose_within, even}
use Rattle.generator_lent.specs.Lent.{told_choice}
use Rattle.generator_lent.proofs.Loops.{behind}
use Rattle.generator_lent.proofs.choice_from.Given as goal

abbrev pub invariant-loop-spent : goal.invariant-loop-spent
invariant-loop-spent l = (l.spent ≤ 7) × (told_choice (even l.n l.seed) ≡ behind l.spent (choose_within (7 - l.spent) l.n l.s))

abbrev pub decreases-loop-spent : goal.decreases-loop-spent
decreases-loop-spent l = 7 - l.spent
