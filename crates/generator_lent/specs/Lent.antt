-- What a draw and a choice do to the generator that is lent for it, and the three draws of a command.
use Rattle.std.specs.Prelude.{ℕ, ◌-◌, ◌%◌, ◌≡◌}
use Rattle.generator_draws.specs.Below as below
use Rattle.generator_draws.specs.Xorshift.{draw}
use Rattle.generator_lent.specs.declared.Generator.{Generator}
use Rattle.generator_lent.specs.declared.Three.{Three}
use Rattle.generator_lent.specs.declared.Choice.{Choice}

-- One draw: the number that is handed back, and the generator left behind, whose seed it is.
abbrev pub Advances : Generator → ℕ → Generator → Type 0
Advances g r left = (r ≡ draw g.seed) × (left.seed ≡ draw g.seed)

-- three draws, one after another
abbrev pub three_from : ℕ → Three
three_from seed = record { first = draw seed; second = draw (draw seed); third = draw (draw (draw seed)) }

-- a choice of the definitions, in the program's numbers; and the choice of one draw, which is x
abbrev pub told_choice : below.Choice → Choice
told_choice c = record { number = c.number; seed = c.seed; spent = c.spent }

abbrev pub taken_of : ℕ → ℕ → ℕ → Choice
taken_of x n spent = record { number = (x - 1) % n; seed = x; spent = spent }

-- A choice below n by edition 2: what is handed back, and the generator left behind, whose seed is the choice's.
abbrev pub Chooses : Generator → ℕ → Choice → Generator → Type 0
Chooses g n r left = (r ≡ told_choice (below.even n g.seed)) × (left.seed ≡ (below.even n g.seed).seed)
