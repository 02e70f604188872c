-- What is shown when, by computing: one run from the fresh machine, and rows for each way to set one. Assumes nothing.
use Prim.Native.Nat.{ℕ, ◌+◌, ◌^◌}
use mathlib.Core.Path.{◌≡◌, refl}
use mathlib.Core.Bool.{true}
use mathlib.Core.List.{List, [], ◌∷◌}
use lib.ListN.{replicate}
use Rattle.rules.specs.Line.{one_if, all_below}
use Rattle.rules.specs.Machine.{Machine, Command, task_count}
use Rattle.rules.specs.Table.{with_set_up, carry, leave, release}
use Rattle.rules.specs.Refusals.{refusal}
use Rattle.rules.specs.Run.{released}
use Rattle.rules.specs.Run as R
use Rattle.rules.proofs.Script.{create, object, start, delay, wake, advance, open', closep, entry, failp, failf, faile, failw, made, on, low, ◌▸◌, otherwise}
use Rattle.rules_exceptions.specs.Exceptions.{State, next, answer, fresh, pending_sound}

-- what a command gives: code, running, released, 1 where it shows an exception, and what is pending behind it
abbrev gives : State → Command → List ℕ
gives s c = let a = answer s c in a.code ∷ a.running ∷ a.released ∷ one_if a.exception ∷ (next s c).pending ∷ []

abbrev all_give : State → List Command → List (List ℕ)
all_give s [] = []
all_give s (c ∷ cs) = gives s c ∷ all_give (next s c) cs

abbrev line : ℕ → ℕ → ℕ → ℕ → ℕ → List ℕ
line code running released exception pending = code ∷ running ∷ released ∷ exception ∷ pending ∷ []

-- 22, 21 and 23 sleep. 24 holds object 1 when 21 wakes, and 21 holds object 7 when 22 wakes; each ends its body by an exception, and so the task above it
-- runs. A refused command shows nothing. When 22 sleeps again 21 runs, and the answer shows 21's; then 24's; each once.
abbrev script : List Command
script =
    create 21 3 ∷ create 22 5 ∷ create 23 3 ∷ create 24 1 ∷ object 1 12 ∷ object 7 9 ∷ start ∷
    delay 90 ∷ delay 80 ∷ delay 200 ∷
    open' 1 ∷ advance 80 ∷ wake ∷ failp 1 1 ∷
    open' 7 ∷ advance 10 ∷ wake ∷ failf 7 ∷
    open' 4 ∷ delay 300 ∷ delay 300 ∷ advance 1 ∷ []

pub run_shows : all_give fresh script ≡
    line 0 0 0 0 0 ∷ line 0 0 0 0 0 ∷ line 0 0 0 0 0 ∷ line 0 0 0 0 0 ∷ line 0 0 0 0 0 ∷ line 0 0 0 0 0 ∷ line 0 22 0 0 0 ∷
    line 0 21 0 0 0 ∷ line 0 23 0 0 0 ∷ line 0 24 0 0 0 ∷
    line 0 24 0 0 0 ∷ line 0 24 0 0 0 ∷ line 0 24 21 0 0 ∷ line 0 21 0 0 (2 ^ 24) ∷
    line 0 21 0 0 (2 ^ 24) ∷ line 0 21 0 0 (2 ^ 24) ∷ line 0 21 22 0 (2 ^ 24) ∷ line 0 22 0 0 (2 ^ 24 + 2 ^ 21) ∷
    line 6 22 0 0 (2 ^ 24 + 2 ^ 21) ∷ line 0 21 0 1 (2 ^ 24) ∷ line 0 24 0 1 0 ∷ line 0 24 0 0 0 ∷ []
unfolding next answer R.next released refusal carry leave release
run_shows = refl

-- A row: in that machine, with that pending, the command gives these. (The machine: rules/proofs/Script.)
abbrev row : Machine → ℕ → Command → ℕ → ℕ → ℕ → ℕ → ℕ → (State × Command) × List ℕ
row m p c code running released exception pending = ((record { machine = m; pending = p }, c), line code running released exception pending)

-- 22 waits on object 7, and 21 runs; 21 waits on it, 22 sleeps, and 23, of 21's base, runs
abbrev waited : Machine
waited = on ▸ entry 7 0

abbrev equal_waits : Machine
equal_waits = low ▸ entry 7 0

-- 21 holds object 7, and 22, which is above it, is awake
abbrev woken : Machine
woken = low ▸ open' 7 ▸ advance 90 ▸ wake

abbrev table : List ((State × Command) × List ℕ)
table =
    -- 12, 13 and 14: the closer runs on, and its own answer shows it; nobody waits, or 21, of 23's base
    row (on ▸ open' 7) 0 (failp 7 0) 0 22 0 1 0 ∷ row (on ▸ open' 7) 0 (failp 7 1) 0 22 0 1 0 ∷ row (on ▸ open' 7) 0 (failf 7) 0 22 0 1 0 ∷
    row (on ▸ entry 7 1) 0 (faile 7 0) 0 22 0 1 0 ∷ row (on ▸ entry 7 1) 0 (faile 7 1) 0 22 0 1 0 ∷
    row (equal_waits ▸ open' 7) 0 (failp 7 1) 0 23 21 1 0 ∷ row (equal_waits ▸ open' 7) 0 (failf 7) 0 23 0 1 0 ∷
    row (equal_waits ▸ entry 7 1) 0 (faile 7 1) 0 23 21 1 0 ∷
    -- 12, 13 and 14: 22, released now or before, runs, and the closer's is left
    row (waited ▸ open' 7) 0 (failp 7 1) 0 22 22 0 (2 ^ 21) ∷ row (waited ▸ entry 7 1) 0 (faile 7 1) 0 22 22 0 (2 ^ 21) ∷
    row woken 0 (failp 7 1) 0 22 0 0 (2 ^ 21) ∷ row woken 0 (failf 7) 0 22 0 0 (2 ^ 21) ∷
    -- 15: the waiter's: 22, released, runs at once; 21, released, runs once 23 sleeps, and not the closer's answer but that one shows it
    row (waited ▸ open' 7) 0 (failw 7 1) 0 22 22 1 0 ∷
    row (equal_waits ▸ open' 7) 0 (failw 7 1) 0 23 21 0 (2 ^ 21) ∷ row (equal_waits ▸ open' 7 ▸ failw 7 1) (2 ^ 21) (delay 95) 0 21 0 1 0 ∷
    -- 15: nobody's: nobody waits there, or the barrier is shut
    row (on ▸ open' 7) 0 (failw 7 1) 0 22 0 0 0 ∷ row (waited ▸ open' 6) 0 (failw 6 1) 0 21 0 0 0 ∷
    row (waited ▸ open' 7) 0 (failw 7 0) 0 21 0 0 0 ∷ row (equal_waits ▸ open' 7) 0 (failw 7 0) 0 23 0 0 0 ∷
    -- none by another closing, which shows what is left
    row (on ▸ open' 7) 0 (closep 7 1) 0 22 0 0 0 ∷ row woken (2 ^ 22) (closep 7 1) 0 22 0 1 0 ∷
    -- a refused command sets, shows and clears none: 22 runs with one pending, as in a saved state alone (Theorems, runner-has-none)
    row on (2 ^ 22) start 3 22 0 0 (2 ^ 22) ∷ row on 0 (failp 7 1) 9 22 0 0 0 ∷ row (on ▸ open' 7) 0 (faile 7 1) 9 22 0 0 0 ∷
    row on (2 ^ 22 + 2 ^ 23) (advance 1) 0 22 0 1 (2 ^ 23) ∷
    -- a second one for a task with one pending keeps the older
    row (on ▸ open' 7) (2 ^ 22) (failp 7 1) 0 22 0 1 0 ∷ row (waited ▸ open' 7) (2 ^ 21) (failp 7 1) 0 22 22 0 (2 ^ 21) ∷
    row (equal_waits ▸ open' 7) (2 ^ 21) (failw 7 1) 0 23 21 0 (2 ^ 21) ∷ row (waited ▸ open' 7) (2 ^ 22) (failw 7 1) 0 22 22 1 0 ∷ []

pub rows : otherwise (λ r. gives r.0 r.1) table ≡ []
unfolding next answer R.next released refusal carry leave release
rows = refl

-- What may be pending in a saved state, 1 where it may: those of the created tasks 21 to 24; not idle's, whatever bases there are, nor that of a task that
-- is not created, or of what is no task; and none before Start.
abbrev all_based : Machine
all_based = with_set_up on (replicate task_count 5) on.ceiling true

abbrev may : Machine → ℕ → ℕ → (Machine × ℕ) × List ℕ
may m p verdict = ((m, p), verdict ∷ [])

pub pending_limits :
    otherwise (λ r. one_if (pending_sound r.0.started r.0.base r.1) ∷ [])
    (may on 0 1 ∷ may on (2 ^ 21) 1 ∷ may on (2 ^ 24) 1 ∷ may on (2 ^ 21 + 2 ^ 22 + 2 ^ 23 + 2 ^ 24) 1 ∷
    may on 1 0 ∷ may on (1 + 2 ^ 22) 0 ∷ may on (2 ^ 20) 0 ∷ may on (2 ^ 25) 0 ∷ may on (2 ^ 31 + 2 ^ 22) 0 ∷ may on (2 ^ 32) 0 ∷ may on (2 ^ 32 + 2 ^ 22) 0 ∷
    may all_based (2 ^ 22) 1 ∷ may all_based 1 0 ∷ may made 0 1 ∷ may made (2 ^ 22) 0 ∷ [])
    ≡ []
unfolding pending_sound all_below R.next refusal carry leave release
pending_limits = refl
