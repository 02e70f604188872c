-- Document 01's walk, all sixteen lines, by computing. (What it does not reach: Corners and Limits.) Assumes nothing.
use Prim.Native.Nat.{ℕ, suc}
use mathlib.Core.Path.{◌≡◌, refl}
use mathlib.Core.List.{List, [], ◌∷◌, ◌++◌}
use Rattle.rules.specs.Machine.{Machine, Command, fresh}
use Rattle.rules.specs.Table.{carry, leave, release}
use Rattle.rules.specs.Refusals.{refusal}
use Rattle.rules.specs.Run.{next, released, answer, run}
use Rattle.rules.proofs.Words.{cmd}

-- a line of the walk: its number, op, code, running, released and clock
pub record Printed : Type 0 where
  pub n : ℕ
  pub op : ℕ
  pub code : ℕ
  pub running : ℕ
  pub released : ℕ
  pub clock : ℕ

abbrev pub line : ℕ → ℕ → ℕ → ℕ → ℕ → ℕ → Printed
line n op code running released clock = record { n = n; op = op; code = code; running = running; released = released; clock = clock }

abbrev pub lines : ℕ → Machine → List Command → List Printed
lines n m [] = []
lines n m (c ∷ cs) =
    let a = answer m c in
    record { n = n; op = c.op; code = a.code; running = a.running; released = a.released; clock = (next m c).clock } ∷ lines (suc n) (next m c) cs

-- create 1 3, create 2 5, create 3 3, object 1 4, start
abbrev pub set_up : List Command
set_up = cmd 1 1 3 0 ∷ cmd 1 2 5 0 ∷ cmd 1 3 3 0 ∷ cmd 2 1 4 0 ∷ cmd 3 0 0 0 ∷ []

-- and delay 10, open 1, advance 10, wake, open 1, delay 20, closep 1 1, entry 1 0, entry 1 0, open 1, closep 1 1
abbrev pub walk : List Command
walk =
    set_up ++
    (cmd 4 0 0 10 ∷ cmd 7 1 0 0 ∷ cmd 6 0 0 10 ∷ cmd 5 0 0 0 ∷ cmd 7 1 0 0 ∷ cmd 4 0 0 20 ∷
    cmd 8 1 1 0 ∷ cmd 10 1 0 0 ∷ cmd 10 1 0 0 ∷ cmd 7 1 0 0 ∷ cmd 8 1 1 0 ∷ [])

-- The walk as the paper prints it. Rules out a machine that refuses all, does nothing, or moves one of these tasks otherwise.
pub walk_lines : lines 1 fresh walk ≡
    line 1 1 0 0 0 0 ∷
    line 2 1 0 0 0 0 ∷
    line 3 1 0 0 0 0 ∷
    line 4 2 0 0 0 0 ∷
    line 5 3 0 2 0 0 ∷
    line 6 4 0 1 0 0 ∷
    line 7 7 0 1 0 0 ∷
    line 8 6 0 1 0 10 ∷
    line 9 5 0 2 2 10 ∷
    line 10 7 10 2 0 10 ∷
    line 11 4 0 1 0 10 ∷
    line 12 8 0 1 0 10 ∷
    line 13 10 0 3 0 10 ∷
    line 14 10 12 3 0 10 ∷
    line 15 7 0 3 0 10 ∷
    line 16 8 0 3 1 10 ∷ []
unfolding answer next released refusal carry leave release
walk_lines = refl

-- a refused command leaves the clock, and all else, as it was
pub refused_keeps : run fresh (set_up ++ (cmd 7 3 0 0 ∷ [])) ≡ run fresh set_up
unfolding run next refusal carry leave release
refused_keeps = refl
