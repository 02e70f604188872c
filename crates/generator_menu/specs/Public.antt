-- What the menu is asked: the command that a draw makes, by either edition, of the machine that the tables show.
use Rattle.std.specs.Prelude.{ℕ, true, List}
use Rattle.rules.specs.Machine as rules
use Rattle.kernel_checks.specs.declared.Command.{Command}
use Rattle.kernel_checks.specs.Shown.{shown}
use Rattle.generator_draws.specs.Below.{even}
use Rattle.generator_draws.specs.Draw as draws
use Rattle.generator_draws.specs.Draw.{profile_of, chosen, made_by}
use Rattle.generator_menu.specs.declared.Made.{Made}

-- a command of the definitions, in the program's four numbers
abbrev pub told_command : rules.Command → Command
told_command c = record { op = c.op; a = c.a; b = c.b; value = c.value }

abbrev pub told_made : draws.Made → Made
told_made d = record { command = told_command d.command; seed = d.seed; spent = d.spent }

-- Edition 1: the command that the definitions choose by three draws. (What is chosen does not look at the delay line,
-- nor at whether the machine is started.)
unfoldable pub chosen_of : List ℕ → List ℕ → List ℕ → List ℕ → List ℕ → List ℕ → ℕ → ℕ → List ℕ → ℕ → ℕ → ℕ → Command
chosen_of base ready held way ceiling waiter clock span weights d1 d2 d3 =
    told_command (chosen (shown base ready held way ceiling waiter clock true) (profile_of span weights) d1 d2 d3)

-- Edition 2, from a seed.
unfoldable pub evenly_of : List ℕ → List ℕ → List ℕ → List ℕ → List ℕ → List ℕ → ℕ → ℕ → List ℕ → ℕ → Made
evenly_of base ready held way ceiling waiter clock span weights seed =
    told_made (made_by even (shown base ready held way ceiling waiter clock true) seed (profile_of span weights))
