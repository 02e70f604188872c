-- Which command is refused, and with which number: every op at every limit of every operand, in nine states, by computing. Assumes nothing.
use Prim.Native.Nat.{ℕ, ◌^◌, ◌-◌}
use mathlib.Core.Path.{◌≡◌, refl}
use mathlib.Core.List.{List, [], ◌∷◌}
use lib.ListN.{set}
use Rattle.rules.specs.Machine.{Machine, Command, fresh}
use Rattle.rules.specs.Table.{with_lines, with_hands, carry, leave, release}
use Rattle.rules.specs.Refusals.{refusal}
use Rattle.rules.specs.Run.{next, question}
use Rattle.rules.proofs.Words.{cmd}
use Rattle.rules.proofs.Script.{create, object, start, delay, wake, advance, open', closep, closef, entry, done, failp, failf, faile, failw, made, on, low, ◌▸◌, otherwise}

-- 11 is met in no run from the fresh machine, but in a saved state: 21 runs, 23 of the same base holds object 2 behind it, and 24 waits there.
abbrev pub forged : Machine
forged =
    let m = low ▸ advance 5 in
    with_hands (with_lines m (21 ∷ 23 ∷ 0 ∷ []) m.delay (set m.queue 2 (24 ∷ []))) (set m.held 23 2) (set m.way 23 1)

-- 22 and 21 wait, and 23 runs
abbrev queued : Machine
queued = on ▸ entry 7 0 ▸ entry 6 0

-- The nine states, the columns of the table.
abbrev columns : List Machine
columns =
    fresh ∷  -- bare
    made ∷  -- made: before Start
    on ∷  -- on: 22 runs, and holds nothing
    queued ▸ open' 7 ∷  -- opened: 23 runs and holds object 7, for a procedure or function; 22 waits there, and 21 on 6
    on ▸ entry 7 1 ∷  -- entered: 22 runs and holds object 7, for an entry
    on ▸ delay 9 ▸ entry 6 0 ▸ open' 2 ▸ advance 9 ▸ wake ∷  -- above: 22 runs, of a base above the ceiling of 6, where 21 waits, and of 2, which 23 holds
    queued ∷  -- queued: 23 runs; 22 waits on 7, and 21 on 6
    queued ▸ delay 9 ▸ delay 9 ∷  -- idle: and then 23 and 24 sleep, and idle runs
    forged ∷ []

-- the number that each state gives; and a row: what is asked, with the code that it is to get in each of the nine states
abbrev in_each : {A : Type 0} → (Machine → A → ℕ) → List Machine → A → List ℕ
in_each f [] x = []
in_each f (m ∷ l) x = f m x ∷ in_each f l x

abbrev row : {A : Type 0} → A → ℕ → ℕ → ℕ → ℕ → ℕ → ℕ → ℕ → ℕ → ℕ → A × List ℕ
row x bare made on opened entered above queued idle forged = (x, bare ∷ made ∷ on ∷ opened ∷ entered ∷ above ∷ queued ∷ idle ∷ forged ∷ [])

-- 4 whatever the state: it comes before 2 and 3, and before all behind them
abbrev range : Command → Command × List ℕ
range c = row c 4 4 4 4 4 4 4 4 4

-- bare made on opened entered above queued idle forged: before Start all of 4..15 are 2, after it all of 1..3 are 3
abbrev table : List (Command × List ℕ)
table =
    -- no op
    range (cmd 0 0 0 0) ∷ range (cmd 16 0 0 0) ∷ range (cmd 16 7 1 0) ∷ range (cmd 255 0 0 0) ∷ range (cmd 261 0 0 0) ∷
    -- 1 create: a task 1..31, a priority 1..15; 21 is set up before
    row (create 1 6) 0 0 3 3 3 3 3 3 3 ∷
    row (create 31 6) 0 0 3 3 3 3 3 3 3 ∷
    row (create 25 1) 0 0 3 3 3 3 3 3 3 ∷
    row (create 25 15) 0 0 3 3 3 3 3 3 3 ∷
    row (create 21 6) 0 5 3 3 3 3 3 3 3 ∷
    range (create 0 6) ∷ range (create 32 6) ∷ range (create 25 0) ∷ range (create 25 16) ∷ range (cmd 1 25 6 1) ∷
    -- 2 object: an object 1..7, a ceiling 1..15; 1 and 7 are set up before
    row (object 1 8) 0 5 3 3 3 3 3 3 3 ∷
    row (object 7 8) 0 5 3 3 3 3 3 3 3 ∷
    row (object 5 1) 0 0 3 3 3 3 3 3 3 ∷
    row (object 5 15) 0 0 3 3 3 3 3 3 3 ∷
    range (object 0 8) ∷ range (object 8 9) ∷ range (object 5 0) ∷ range (object 1 0) ∷ range (object 5 16) ∷ range (cmd 2 5 8 1) ∷
    -- 3 start: where no task is created, too; and it has no operand
    row start 0 0 3 3 3 3 3 3 3 ∷
    range (cmd 3 1 0 0) ∷ range (cmd 3 0 1 0) ∷ range (cmd 3 0 0 1) ∷
    -- 4 delay: any time of 64 bits, past or to come
    row (delay 0) 2 2 0 8 8 0 0 7 0 ∷
    row (delay 10) 2 2 0 8 8 0 0 7 0 ∷
    row (delay (2 ^ 64 - 1)) 2 2 0 8 8 0 0 7 0 ∷
    range (delay (2 ^ 64)) ∷ range (cmd 4 1 0 10) ∷ range (cmd 4 0 1 10) ∷
    -- 5 wake: after Start always
    row wake 2 2 0 0 0 0 0 0 0 ∷
    range (cmd 5 1 0 0) ∷ range (cmd 5 0 1 0) ∷ range (cmd 5 0 0 1) ∷
    -- 6 advance: to 2^64-1 and not past it. The clock is 0, in `above` 9 and in `forged` 5
    row (advance 0) 2 2 0 0 0 0 0 0 0 ∷
    row (advance (2 ^ 64 - 10)) 2 2 0 0 0 0 0 0 0 ∷
    row (advance (2 ^ 64 - 9)) 2 2 0 0 0 13 0 0 0 ∷
    row (advance (2 ^ 64 - 1)) 2 2 0 0 0 13 0 0 13 ∷
    row (advance (2 ^ 64)) 2 2 13 13 13 13 13 13 13 ∷
    range (cmd 6 1 0 10) ∷ range (cmd 6 0 1 10) ∷
    -- 7 open: 5 is not set up; 6 before 7 and 8; the ceilings of 6 and 2 are below 22's base, not below 23's and 21's; 8 before 10 and 11, 10 before 11
    row (open' 1) 2 2 0 8 8 0 0 7 0 ∷
    row (open' 7) 2 2 0 8 8 0 0 7 0 ∷
    row (open' 5) 2 2 6 6 6 6 6 6 6 ∷
    row (open' 6) 2 2 10 8 8 10 0 7 0 ∷
    row (open' 2) 2 2 10 8 8 10 0 7 11 ∷
    range (open' 0) ∷ range (open' 8) ∷ range (cmd 7 7 1 0) ∷ range (cmd 7 7 0 1) ∷
    -- 8 closep: ends an open of that object by the runner; 6 before 7 and 9, 7 before 9
    row (closep 7 0) 2 2 9 0 9 9 9 7 9 ∷
    row (closep 7 1) 2 2 9 0 9 9 9 7 9 ∷
    row (closep 1 0) 2 2 9 9 9 9 9 7 9 ∷
    row (closep 2 0) 2 2 9 9 9 9 9 7 9 ∷
    row (closep 5 1) 2 2 6 6 6 6 6 6 6 ∷
    range (closep 0 1) ∷ range (closep 8 0) ∷ range (closep 8 1) ∷ range (closep 7 2) ∷ range (cmd 8 7 0 1) ∷
    -- 9 closef: the same, without a barrier
    row (closef 7) 2 2 9 0 9 9 9 7 9 ∷
    row (closef 1) 2 2 9 9 9 9 9 7 9 ∷
    row (closef 2) 2 2 9 9 9 9 9 7 9 ∷
    row (closef 5) 2 2 6 6 6 6 6 6 6 ∷
    range (closef 0) ∷ range (closef 8) ∷ range (cmd 9 7 1 0) ∷ range (cmd 9 7 0 1) ∷
    -- 10 entry: as open, whatever the barrier; with barrier 0 also 12 where one waits, behind 7, 8, 10 and 11
    row (entry 1 0) 2 2 0 8 8 0 0 7 0 ∷
    row (entry 7 0) 2 2 0 8 8 0 12 7 0 ∷
    row (entry 7 1) 2 2 0 8 8 0 0 7 0 ∷
    row (entry 5 0) 2 2 6 6 6 6 6 6 6 ∷
    row (entry 6 0) 2 2 10 8 8 10 12 7 0 ∷
    row (entry 6 1) 2 2 10 8 8 10 0 7 0 ∷
    row (entry 2 0) 2 2 10 8 8 10 0 7 11 ∷
    row (entry 2 1) 2 2 10 8 8 10 0 7 11 ∷
    range (entry 0 1) ∷ range (entry 8 0) ∷ range (entry 8 1) ∷ range (entry 7 2) ∷ range (cmd 10 7 0 1) ∷
    -- 11 done: ends an entry of that object by the runner
    row (done 7 0) 2 2 9 9 0 9 9 7 9 ∷
    row (done 7 1) 2 2 9 9 0 9 9 7 9 ∷
    row (done 1 0) 2 2 9 9 9 9 9 7 9 ∷
    row (done 2 0) 2 2 9 9 9 9 9 7 9 ∷
    row (done 5 1) 2 2 6 6 6 6 6 6 6 ∷
    range (done 0 1) ∷ range (done 8 0) ∷ range (done 8 1) ∷ range (done 7 2) ∷ range (cmd 11 7 0 1) ∷
    -- 12 failp, as closep
    row (failp 7 0) 2 2 9 0 9 9 9 7 9 ∷
    row (failp 7 1) 2 2 9 0 9 9 9 7 9 ∷
    row (failp 1 0) 2 2 9 9 9 9 9 7 9 ∷
    row (failp 2 0) 2 2 9 9 9 9 9 7 9 ∷
    row (failp 5 1) 2 2 6 6 6 6 6 6 6 ∷
    range (failp 0 1) ∷ range (failp 8 0) ∷ range (failp 8 1) ∷ range (failp 7 2) ∷ range (cmd 12 7 0 1) ∷
    -- 13 failf, as closef
    row (failf 7) 2 2 9 0 9 9 9 7 9 ∷
    row (failf 1) 2 2 9 9 9 9 9 7 9 ∷
    row (failf 2) 2 2 9 9 9 9 9 7 9 ∷
    row (failf 5) 2 2 6 6 6 6 6 6 6 ∷
    range (failf 0) ∷ range (failf 8) ∷ range (cmd 13 7 1 0) ∷ range (cmd 13 7 0 1) ∷
    -- 14 faile, as done
    row (faile 7 0) 2 2 9 9 0 9 9 7 9 ∷
    row (faile 7 1) 2 2 9 9 0 9 9 7 9 ∷
    row (faile 1 0) 2 2 9 9 9 9 9 7 9 ∷
    row (faile 2 0) 2 2 9 9 9 9 9 7 9 ∷
    row (faile 5 1) 2 2 6 6 6 6 6 6 6 ∷
    range (faile 0 1) ∷ range (faile 8 0) ∷ range (faile 8 1) ∷ range (faile 7 2) ∷ range (cmd 14 7 0 1) ∷
    -- 15 failw, as closep
    row (failw 7 0) 2 2 9 0 9 9 9 7 9 ∷
    row (failw 7 1) 2 2 9 0 9 9 9 7 9 ∷
    row (failw 1 0) 2 2 9 9 9 9 9 7 9 ∷
    row (failw 2 0) 2 2 9 9 9 9 9 7 9 ∷
    row (failw 5 1) 2 2 6 6 6 6 6 6 6 ∷
    range (failw 0 1) ∷ range (failw 8 0) ∷ range (failw 8 1) ∷ range (failw 7 2) ∷ range (cmd 15 7 0 1) ∷ []

pub limits : otherwise (in_each refusal columns) table ≡ []
unfolding next refusal carry leave release
limits = refl

-- "Wakes left" has the checks 4 and 6, and not 2: before Start a task that is set up is answered 0.
pub question_limits :
    otherwise (in_each (λ m t. (question m t).code) columns)
    (row 0 4 4 4 4 4 4 4 4 4 ∷
    row 1 6 6 6 6 6 6 6 6 6 ∷
    row 21 6 0 0 0 0 0 0 0 0 ∷
    row 31 6 6 6 6 6 6 6 6 6 ∷
    row 32 4 4 4 4 4 4 4 4 4 ∷ [])
    ≡ []
unfolding question next refusal carry leave release
question_limits = refl
