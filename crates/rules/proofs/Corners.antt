-- What a command does, told by its answer, by computing: rows for each op that the walk does not reach and the slips of document 01; the customer's
-- case of request 2; "Wakes left". (Which command is refused: Limits.) Assumes nothing.
use Prim.Native.Nat.{ℕ, ◌+◌, ◌^◌, ◌-◌}
use mathlib.Core.Path.{◌≡◌, refl}
use mathlib.Core.List.{List, [], ◌∷◌}
use Rattle.rules.specs.Machine.{Machine, Command, fresh}
use Rattle.rules.specs.Table.{carry, leave, release}
use Rattle.rules.specs.Refusals.{refusal}
use Rattle.rules.specs.Run.{next, released, answer, question, wakes_left}
use Rattle.rules.proofs.Words.{cmd}
use Rattle.rules.proofs.Script.{create, start, delay, wake, advance, open', closep, closef, entry, done, made, on, low, ◌▸◌, otherwise}
use Rattle.rules.proofs.Walk.{line, lines}

-- a row: in that state, the command is answered so: code, running, released
abbrev row : Machine → Command → ℕ → ℕ → ℕ → (Machine × Command) × List ℕ
row m c code running released = ((m, c), code ∷ running ∷ released ∷ [])

abbrev told : Machine × Command → List ℕ
told r = let a = answer r.0 r.1 in a.code ∷ a.running ∷ a.released ∷ []

-- 22 waits on object 7, and 21 runs; 21 waits on it, 22 sleeps, and 23, of 21's base, runs
abbrev waited : Machine
waited = on ▸ entry 7 0

abbrev equal_waits : Machine
equal_waits = low ▸ entry 7 0

abbrev table : List ((Machine × Command) × List ℕ)
table =
    -- 3 start: the front runs; idle, where no task is created
    row made start 0 22 0 ∷ row fresh start 0 0 0 ∷
    -- 1 create: 21 before 23, by the order in which they came; before Start the running task is 0
    row on (delay 90) 0 21 0 ∷ row low (delay 95) 0 23 0 ∷ row (low ▸ delay 95) (delay 95) 0 24 0 ∷ row (low ▸ delay 95 ▸ delay 95) (delay 95) 0 0 0 ∷
    row made (create 25 8) 0 0 0 ∷
    -- 4 delay: a time above the clock is slept for, however far: the next task runs
    row on (delay 1) 0 21 0 ∷ row on (delay (2 ^ 32 - 1)) 0 21 0 ∷ row on (delay (2 ^ 32)) 0 21 0 ∷ row on (delay (2 ^ 32 + 1)) 0 21 0 ∷
    row on (delay (2 ^ 64 - 1)) 0 21 0 ∷
    row (on ▸ advance 50) (delay 51) 0 21 0 ∷ row (on ▸ advance 50) (delay (2 ^ 32 + 51)) 0 21 0 ∷
    -- 4: a time at the clock or below it is a yield: alone at its base the runner runs on; behind its equal 23 it stays ready, before 24, and no Wake finds it
    row on (delay 0) 0 22 0 ∷ row (on ▸ advance 50) (delay 50) 0 22 0 ∷ row (on ▸ advance 50) (delay 49) 0 22 0 ∷
    row low (delay 0) 0 23 0 ∷ row (low ▸ advance 50) (delay 50) 0 23 0 ∷ row (low ▸ advance 50) (delay 49) 0 23 0 ∷
    row (low ▸ advance 50) (delay 1) 0 23 0 ∷
    row (low ▸ advance 50 ▸ delay 49) (delay 95) 0 21 0 ∷ row (low ▸ advance 50 ▸ delay 50) (delay 95) 0 21 0 ∷
    row (low ▸ advance 50 ▸ delay 51) (delay 95) 0 24 0 ∷
    row (low ▸ advance 50 ▸ delay 49) wake 0 23 0 ∷
    -- 5 wake: nobody sleeps; 22, asleep until 90, is not due at 89, and is at 90 and at 91
    row on wake 0 22 0 ∷ row (low ▸ advance 89) wake 0 21 0 ∷ row (low ▸ advance 90) wake 0 22 22 ∷ row (low ▸ advance 91) wake 0 22 22 ∷
    -- 5: equal times by order of entry: 22 and then 21; else by time: 21, until 40, and then 22
    row (low ▸ delay 90 ▸ advance 90) wake 0 22 22 ∷ row (low ▸ delay 90 ▸ advance 90 ▸ wake) wake 0 22 21 ∷
    row (low ▸ delay 40 ▸ advance 90) wake 0 23 21 ∷ row (low ▸ delay 40 ▸ advance 90 ▸ wake) wake 0 22 22 ∷
    -- 5: 21, released, stands behind 23, of equal base, and before 24
    row (low ▸ delay 40 ▸ advance 90 ▸ wake) (delay 95) 0 21 0 ∷
    -- 5: 21 holds an object of ceiling 9, or of 22's own base: 22, released, runs once it is closed
    row (low ▸ open' 7 ▸ advance 90) wake 0 21 22 ∷ row (low ▸ open' 7 ▸ advance 90 ▸ wake) (closep 7 0) 0 22 0 ∷
    row (low ▸ open' 4 ▸ advance 90) wake 0 21 22 ∷ row (low ▸ open' 4 ▸ advance 90 ▸ wake) (closef 4) 0 22 0 ∷
    -- 6 advance: it releases nobody and moves nobody, though 22 is due; its ticks add up; while idle runs, too, and a Wake then releases
    row low (advance 0) 0 21 0 ∷ row low (advance 90) 0 21 0 ∷ row (low ▸ advance 90) (delay 95) 0 23 0 ∷
    row (low ▸ advance 50 ▸ advance 39) wake 0 21 0 ∷ row (low ▸ advance 50 ▸ advance 40) wake 0 22 22 ∷
    row (low ▸ delay 95 ▸ delay 95 ▸ delay 95) (advance 90) 0 0 0 ∷ row (low ▸ delay 95 ▸ delay 95 ▸ delay 95 ▸ advance 90) wake 0 22 22 ∷
    -- 7 open, and 9 closef: with 23, of equal base, behind it, 21 runs on; it then holds nothing, and so may sleep
    row low (open' 7) 0 21 0 ∷ row (low ▸ open' 7) (closef 7) 0 21 0 ∷ row (low ▸ open' 7 ▸ closef 7) (delay 95) 0 23 0 ∷
    -- 8 closep: nobody waits; 22 waits there: barrier 0 and closef release nobody, barrier 1 releases 22, which then runs; or it waits on another object
    row (low ▸ open' 7) (closep 7 0) 0 21 0 ∷ row (low ▸ open' 7) (closep 7 1) 0 21 0 ∷
    row (waited ▸ open' 7) (closep 7 0) 0 21 0 ∷ row (waited ▸ open' 7) (closef 7) 0 21 0 ∷ row (waited ▸ open' 7) (closep 7 1) 0 22 22 ∷
    row (waited ▸ open' 6) (closep 6 1) 0 21 0 ∷
    -- 8: 21 waits there, of 23's base: 23, who closes, stays in front of it; 21 stands before 24
    row (equal_waits ▸ open' 7) (closep 7 1) 0 23 21 ∷ row (equal_waits ▸ open' 7 ▸ closep 7 1) (delay 95) 0 21 0 ∷
    row (equal_waits ▸ open' 7 ▸ closep 7 0) (delay 95) 0 24 0 ∷
    -- 10 entry: barrier 1 is entered, whoever waits; barrier 0 waits
    row low (entry 7 1) 0 21 0 ∷ row low (entry 7 0) 0 23 0 ∷ row waited (entry 7 1) 0 21 0 ∷ row equal_waits (entry 7 1) 0 23 0 ∷
    -- 11 done: as closep
    row (low ▸ entry 7 1) (done 7 0) 0 21 0 ∷ row (low ▸ entry 7 1) (done 7 1) 0 21 0 ∷ row (low ▸ entry 7 1 ▸ done 7 0) (delay 95) 0 23 0 ∷
    row (waited ▸ entry 7 1) (done 7 0) 0 21 0 ∷ row (waited ▸ entry 7 1) (done 7 1) 0 22 22 ∷ row (waited ▸ entry 6 1) (done 6 1) 0 21 0 ∷
    row (equal_waits ▸ entry 7 1) (done 7 0) 0 23 0 ∷ row (equal_waits ▸ entry 7 1) (done 7 1) 0 23 21 ∷
    row (equal_waits ▸ entry 7 1 ▸ done 7 1) (delay 95) 0 21 0 ∷ row (equal_waits ▸ entry 7 1 ▸ done 7 0) (delay 95) 0 24 0 ∷
    -- a refusal names the running task, and nobody released
    row made (delay 90) 2 0 0 ∷ row on start 3 22 0 ∷ row (low ▸ open' 7) (delay 95) 8 21 0 ∷ row (waited ▸ open' 7) (done 7 1) 9 21 0 ∷ []

pub rows : otherwise told table ≡ []
unfolding answer released next refusal carry leave release
rows = refl

-- The customer's case of request 2 (docs/CUSTOMER-DONE.md), by lines of walk: create 1 3, create 2 2, object 1 4, start, entry 1 0, where 1 waits, and
-- entry 1 1, by which 2 comes through; then done, delay 5, advance 5, wake. By `done 1 1` task 1 is released, runs, sleeps and wakes; by `done 1 0`, which is
-- what `done` was, nobody is, and a Wake finds 2 alone: 1 waits still.
abbrev customer : ℕ → List Command
customer b = cmd 1 1 3 0 ∷ cmd 1 2 2 0 ∷ cmd 2 1 4 0 ∷ cmd 3 0 0 0 ∷ cmd 10 1 0 0 ∷ cmd 10 1 1 0 ∷ cmd 11 1 b 0 ∷ cmd 4 0 0 5 ∷ cmd 6 0 0 5 ∷ cmd 5 0 0 0 ∷ []

pub served_by_done : lines 1 fresh (customer 1) ≡
    line 1 1 0 0 0 0 ∷
    line 2 1 0 0 0 0 ∷
    line 3 2 0 0 0 0 ∷
    line 4 3 0 1 0 0 ∷
    line 5 10 0 2 0 0 ∷
    line 6 10 0 2 0 0 ∷
    line 7 11 0 1 1 0 ∷
    line 8 4 0 2 0 0 ∷
    line 9 6 0 2 0 5 ∷
    line 10 5 0 1 1 5 ∷ []
unfolding answer next released refusal carry leave release
served_by_done = refl

pub left_by_done : lines 1 fresh (customer 0) ≡
    line 1 1 0 0 0 0 ∷
    line 2 1 0 0 0 0 ∷
    line 3 2 0 0 0 0 ∷
    line 4 3 0 1 0 0 ∷
    line 5 10 0 2 0 0 ∷
    line 6 10 0 2 0 0 ∷
    line 7 11 0 2 0 0 ∷
    line 8 4 0 0 0 0 ∷
    line 9 6 0 0 0 5 ∷
    line 10 5 0 2 2 5 ∷ []
unfolding answer next released refusal carry leave release
left_by_done = refl

-- "Wakes left", code and answer: 22 and then 21 sleep until 90, 23 until 95, and 24 runs. At 89 nobody is due, at 90 two are, at 95 all three; behind a Wake
-- one fewer; who is ready, waits, or is only set up is not delayed.
abbrev asleep : Machine
asleep = low ▸ delay 90 ▸ delay 95

abbrev left : Machine → ℕ → ℕ → ℕ → (Machine × ℕ) × List ℕ
left m t code count = ((m, t), code ∷ count ∷ [])

pub wakes_left_answers :
    otherwise (λ r. (question r.0 r.1).code ∷ (question r.0 r.1).left ∷ [])
    (left (asleep ▸ advance 89) 22 0 0 ∷ left (asleep ▸ advance 90) 22 0 1 ∷ left (asleep ▸ advance 90) 21 0 2 ∷ left (asleep ▸ advance 90) 23 0 0 ∷
    left (asleep ▸ advance 95) 23 0 3 ∷ left (asleep ▸ advance 95 ▸ wake) 22 0 0 ∷ left (asleep ▸ advance 95 ▸ wake) 23 0 2 ∷
    left (asleep ▸ advance 95) 24 0 0 ∷ left equal_waits 21 0 0 ∷ left made 21 0 0 ∷
    left asleep 0 4 0 ∷ left asleep 32 4 0 ∷ left asleep 25 6 0 ∷ [])
    ≡ []
unfolding question wakes_left next refusal carry leave release
wakes_left_answers = refl
