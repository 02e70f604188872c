-- Commands by their words, the state behind them, and the one shape of the computed tables: a row has what is asked and the numbers that it is to
-- give, and a table holds where no row gives others. (Of a short table the check shows a row that does, with what it gives; a long one, that the check
-- will not print, has to be halved to find it.) Assumes nothing.
use Prim.Native.Nat.{ℕ}
use mathlib.Core.Bool.{Bool, true, false, cond, ◌&&◌}
use mathlib.Core.List.{List, [], ◌∷◌}
use lib.Dec.{eqb}
use Rattle.rules.specs.Machine.{Machine, Command, fresh}
use Rattle.rules.specs.Run.{next}
use Rattle.rules.proofs.Words.{cmd}

-- the commands of document 01, as its lines have them
abbrev pub create : ℕ → ℕ → Command
create task priority = cmd 1 task priority 0

abbrev pub object : ℕ → ℕ → Command
object number ceiling = cmd 2 number ceiling 0

abbrev pub start : Command
start = cmd 3 0 0 0

abbrev pub delay : ℕ → Command
delay time = cmd 4 0 0 time

abbrev pub wake : Command
wake = cmd 5 0 0 0

abbrev pub advance : ℕ → Command
advance ticks = cmd 6 0 0 ticks

-- (the paper's word is one of antt's)
abbrev pub open' : ℕ → Command
open' object = cmd 7 object 0 0

abbrev pub closep : ℕ → ℕ → Command
closep object barrier = cmd 8 object barrier 0

abbrev pub closef : ℕ → Command
closef object = cmd 9 object 0 0

abbrev pub entry : ℕ → ℕ → Command
entry object barrier = cmd 10 object barrier 0

abbrev pub done : ℕ → ℕ → Command
done object barrier = cmd 11 object barrier 0

abbrev pub failp : ℕ → ℕ → Command
failp object barrier = cmd 12 object barrier 0

abbrev pub failf : ℕ → Command
failf object = cmd 13 object 0 0

abbrev pub faile : ℕ → ℕ → Command
faile object barrier = cmd 14 object barrier 0

abbrev pub failw : ℕ → ℕ → Command
failw object barrier = cmd 15 object barrier 0

-- the state behind one command more
infixl 70 ◌▸◌
abbrev pub ◌▸◌ : Machine → Command → Machine
m ▸ c = next m c

-- Tasks are 21 to 24, so that no task is an object or a priority, with bases 3, 5, 3 and 1. Objects 1, 7, 4, 6 and 2 have ceilings 12, 9, 5, 4
-- and 3; objects 3 and 5 are not declared.
abbrev pub made : Machine
made = fresh ▸ create 21 3 ▸ create 22 5 ▸ create 23 3 ▸ create 24 1 ▸ object 1 12 ▸ object 7 9 ▸ object 4 5 ▸ object 6 4 ▸ object 2 3

-- started: 22 runs, behind it stand 21, 23 and 24
abbrev pub on : Machine
on = made ▸ start

-- and 22 sleeps until 90: 21 runs, and 23, of equal base, stands behind it
abbrev pub low : Machine
low = on ▸ delay 90

-- the same numbers
abbrev pub same : List ℕ → List ℕ → Bool
same [] [] = true
same [] (y ∷ k) = false
same (x ∷ l) [] = false
same (x ∷ l) (y ∷ k) = eqb x y && same l k

module _ {A : Type 0} where
  -- the rows that give other numbers than they are to, each with those that it gives
  abbrev pub otherwise : (A → List ℕ) → List (A × List ℕ) → List (A × List ℕ)
  otherwise gives [] = []
  otherwise gives (r ∷ l) = cond (same (gives r.0) r.1) (otherwise gives l) ((r.0, gives r.0) ∷ otherwise gives l)
