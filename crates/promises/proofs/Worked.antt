-- Document 01's worked numbers over the functions that are shipped, as one table under one statement, by computing. Assumes nothing.
use Prim.Native.Nat.{ℕ, suc}
use mathlib.Core.Path.{◌≡◌, refl}
use mathlib.Core.List.{List, [], ◌∷◌, ◌++◌}
use Rattle.rules.specs.Line.{all_below}
use Rattle.rules.specs.Table.{carry, leave, release}
use Rattle.rules.specs.Refusals.{refusal}
use Rattle.rules.specs.Sound.{sound}
use Rattle.rules.specs.Run as rules
use Rattle.kernel.specs.declared.Kernel.{Kernel}
use Rattle.kernel_checks.specs.declared.Command.{Command}
use Rattle.kernel_checks.specs.Shown.{cmd}
use Rattle.kernel.specs.View.{encode, view, tidy}
use Rattle.kernel.specs.Public.{is_sound, step_of, stepped}
use Rattle.generator.specs.declared.Profile.{Profile}
use Rattle.generator_draws.specs.Xorshift.{draw}
use Rattle.generator_draws.specs.Menu.{menu}
use Rattle.generator_draws.specs.Draw.{drawn, drawn_by, made_by, draw_refusal}
use Rattle.generator_draws.proofs.Theorems as definitions
use Rattle.generator.specs.Public.{drawn_in, drawn_of}
use Rattle.promises.specs.Words.{fresh_of, run_of}

-- a line of the walk: its number, op, code, running, released and clock
pub record Line : Type 0 where
  pub n : ℕ
  pub op : ℕ
  pub code : ℕ
  pub running : ℕ
  pub released : ℕ
  pub clock : ℕ

abbrev line : ℕ → ℕ → ℕ → ℕ → ℕ → ℕ → Line
line n op code running released clock = record { n = n; op = op; code = code; running = running; released = released; clock = clock }

abbrev pub lines_of : ℕ → Kernel → List Command → List Line
lines_of n k [] = []
lines_of n k (c ∷ cs) =
    let s = stepped k c in
    let a = s.answer in
    record { n = n; op = c.op; code = a.code; running = a.running.0; released = a.released.0; clock = s.next.clock } ∷ lines_of (suc n) s.next cs

-- create 1 3, create 2 5, create 3 3, object 1 4, start
abbrev pub set_up : List Command
set_up = cmd 1 1 3 0 ∷ cmd 1 2 5 0 ∷ cmd 1 3 3 0 ∷ cmd 2 1 4 0 ∷ cmd 3 0 0 0 ∷ []

-- and delay 10, open 1, advance 10, wake, open 1, delay 20, closep 1 1, entry 1 0, entry 1 0, open 1, closep 1 1
abbrev pub walk : List Command
walk =
    set_up ++
    (cmd 4 0 0 10 ∷ cmd 7 1 0 0 ∷ cmd 6 0 0 10 ∷ cmd 5 0 0 0 ∷ cmd 7 1 0 0 ∷ cmd 4 0 0 20 ∷
    cmd 8 1 1 0 ∷ cmd 10 1 0 0 ∷ cmd 10 1 0 0 ∷ cmd 7 1 0 0 ∷ cmd 8 1 1 0 ∷ [])

-- seed 1 span 100 weights 10 10 10 10 10 10 10 10
abbrev tens : Profile
tens = record { span = (definitions.tens).span; weights = (definitions.tens).weights }

-- The walk's sixteen lines; the first three draws from seed 1; and the command that seed 1 draws behind the set-up, the delay until 39.
pub worked :
    (lines_of 1 fresh_of walk ≡
    line 1 1 0 0 0 0 ∷
    line 2 1 0 0 0 0 ∷
    line 3 1 0 0 0 0 ∷
    line 4 2 0 0 0 0 ∷
    line 5 3 0 2 0 0 ∷
    line 6 4 0 1 0 0 ∷
    line 7 7 0 1 0 0 ∷
    line 8 6 0 1 0 10 ∷
    line 9 5 0 2 2 10 ∷
    line 10 7 10 2 0 10 ∷
    line 11 4 0 1 0 10 ∷
    line 12 8 0 1 0 10 ∷
    line 13 10 0 3 0 10 ∷
    line 14 10 12 3 0 10 ∷
    line 15 7 0 3 0 10 ∷
    line 16 8 0 3 1 10 ∷ [])
    × (draw 1 ∷ draw (draw 1) ∷ draw (draw (draw 1)) ∷ [] ≡ 270369 ∷ 67634689 ∷ 2647435461 ∷ [])
    × (drawn_of (run_of fresh_of set_up) 1 tens ≡ record { code = 0; command = cmd 4 0 0 39; seed = 2647435461 })
unfolding run_of step_of fresh_of is_sound tidy view encode sound all_below rules.answer rules.next rules.released refusal
    carry leave release draw drawn_of drawn_in drawn drawn_by made_by draw_refusal menu
worked = (refl, refl, refl)
