-- The words in which the theorems are stated, beside those of specs/.
use Prim.Native.Nat.{ℕ, ◌+◌, ◌≤◌, ◌<◌}
use mathlib.Core.Path.{◌≡◌}
use mathlib.Core.Logic.{◌≢◌}
use mathlib.Core.Bool.{Bool, ◌&&◌}
use mathlib.Core.List.{List, [], ◌∷◌}
use lib.Dec.{eqb}
use lib.ListN.{length, get_or}
use Rattle.rules.specs.Line.{at, one_if, count}
use Rattle.rules.specs.Machine.{Machine, Command, last_opened, active}
use Rattle.rules.specs.Run.{accepts, next}

module _ {A : Type 0} where
  -- P of each entry
  abbrev pub All : (A → Type 0) → List A → Type 0
  All P [] = Unit {0}
  All P (x ∷ l) = P x × All P l

  -- R of each entry with each one behind it
  abbrev pub Pairwise : (A → A → Type 0) → List A → Type 0
  Pairwise R [] = Unit {0}
  Pairwise R (x ∷ l) = All (R x) l × Pairwise R l

-- the task holds nothing; it holds an object
abbrev pub Free : Machine → ℕ → Type 0
Free m t = last_opened m t ≡ 0

abbrev pub Holding : Machine → ℕ → Type 0
Holding m t = last_opened m t ≢ 0

-- the order of the ready line: b, behind a, has an active priority of at most a's
abbrev pub Ordered : Machine → ℕ → ℕ → Type 0
Ordered m a b = active m b ≤ active m a

-- the command with these numbers
abbrev pub cmd : ℕ → ℕ → ℕ → ℕ → Command
cmd op a b value = record { op = op; a = a; b = b; value = value }

-- The ops that end a body: closep, closef, done, and the same by an exception; those of them that have a barrier, and serve by it; and those that may
-- release a task, a Wake too. And that an op is one of those.
abbrev pub closing_ops : List ℕ
closing_ops = 8 ∷ 9 ∷ 11 ∷ 12 ∷ 13 ∷ 14 ∷ 15 ∷ []

abbrev pub serving_ops : List ℕ
serving_ops = 8 ∷ 11 ∷ 12 ∷ 14 ∷ 15 ∷ []

abbrev pub releasing_ops : List ℕ
releasing_ops = 5 ∷ serving_ops

abbrev pub Among : List ℕ → ℕ → Type 0
Among ops op = 1 ≤ count op ops

-- the states of a run, the first and the last among them: the moments
unfoldable pub moments : Machine → List Command → List Machine
moments m [] = m ∷ []
moments m (c ∷ cs) = m ∷ moments (next m c) cs

-- an accepted Wake (op 5, code 0), and how many of them a run has
unfoldable pub wakes : Machine → Command → Bool
wakes m c = eqb c.op 5 && accepts m c

unfoldable pub wakes_in : Machine → List Command → ℕ
wakes_in m [] = 0
wakes_in m (c ∷ cs) = one_if (wakes m c) + wakes_in (next m c) cs

-- task t stands at index r of the delay line, and its time is at most the clock
pub record DueAt (m : Machine) (t r : ℕ) : Type 0 where
  pub inside : r < length m.delay
  pub task : (get_or m.delay r (0, 0)).1 ≡ t
  pub due : (get_or m.delay r (0, 0)).0 ≤ m.clock

-- the way ahead of a holder is clear of tasks that its ceiling should have barred: where b holds an object, every task ahead of b in the
-- ready line has a base above b's active priority, which is the object's ceiling
unfoldable pub Clear : Machine → Type 0
Clear m = Pairwise (λ a b. Holding m b → active m b < at m.base a) m.ready
