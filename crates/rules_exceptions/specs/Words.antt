-- The words in which the promises on exceptions are stated, beside those of Exceptions.
use Rattle.std.specs.Prelude.{ℕ, ◌≡◌, Bool, true, false, ◌&&◌, List, [], ◌∷◌, ◌++◌, eqb}
use Rattle.rules.specs.Machine.{Command, running}
use Rattle.rules.specs.Run.{accepts}
use Rattle.rules.specs.Run as R
use Rattle.rules_exceptions.specs.Exceptions.{State, has, owner, next, run}

-- The ops that end a body by an exception, each with the op that moves tasks alike.
abbrev pub matching : List (ℕ × ℕ)
matching = (12, 8) ∷ (13, 9) ∷ (14, 11) ∷ (15, 8) ∷ []

-- The command is accepted, and its answer names t as running.
abbrev pub names : State → Command → ℕ → Bool
names s c t = accepts s.machine c && eqb (running (R.next s.machine c)) t

-- The command is accepted, and sets an exception for task t. (Of t = 0: it sets none.)
abbrev pub sets : State → Command → ℕ → Bool
sets s c t = accepts s.machine c && eqb (owner s.machine c) t

-- No accepted answer of the run names t as running.
abbrev pub Silent : ℕ → State → List Command → Type 0
Silent t s [] = Unit {0}
Silent t s (c ∷ cs) = (names s c t ≡ false) × Silent t (next s c) cs

-- An exception for t was set, and no accepted answer from then on, that of the command which set it included, names t
-- as running. It was set by one of the commands; or it was pending when the run began.
pub data Unshown (t : ℕ) (s : State) (cs : List Command) : Type 0 where
  from_start : has s.pending t ≡ true → Silent t s cs → Unshown t s cs
  set_by : (before : List Command) (c : Command) (between : List Command) → cs ≡ before ++ (c ∷ between)
      → sets (run s before) c t ≡ true → Silent t (run s before) (c ∷ between) → Unshown t s cs

-- The second of the two by itself: it was set by one of the commands.
abbrev pub SetUnshown : ℕ → State → List Command → Type 0
SetUnshown t s cs =
    (before : List Command) ×
    (c : Command) ×
    (between : List Command) ×
    (cs ≡ before ++ (c ∷ between)) ×
    (sets (run s before) c t ≡ true) ×
    Silent t (run s before) (c ∷ between)
