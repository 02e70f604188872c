-- Saved states, by computing: sound ones, ones that are spoilt in one condition alone, and a sound one from which the promise on releases fails.
-- Assumes nothing.
use Prim.Native.Nat.{ℕ, suc, ◌^◌, ◌-◌, ◌<◌}
use native.Mathlib.Omega.{arith}
use mathlib.Core.Path.{◌≡◌, refl}
use mathlib.Core.Logic.{◌≢◌}
use mathlib.Core.Bool.{Bool, true, false, cond}
use mathlib.Core.List.{List, [], ◌∷◌, ◌++◌}
use lib.ListN.{replicate, set}
use borrow.Author.Tests.{eqb-false}
use Rattle.rules.specs.Line.{at, all_below, one_if}
use Rattle.rules.specs.Machine.{Machine, Command, fresh, running, for_open, for_entry}
use Rattle.rules.specs.Table.{with_set_up, with_lines, with_hands, later, carry, leave, release}
use Rattle.rules.specs.Refusals.{refusal}
use Rattle.rules.specs.Sound.{conditions, sound}
use Rattle.rules.specs.Run.{Answer, next, released, answer, run, answers}
use Rattle.rules.proofs.Words.{All, moments}
use Rattle.rules.proofs.Script.{create, object, start, delay, wake, advance, open', closep, entry, made, ◌▸◌, otherwise}
use Rattle.rules.proofs.Limits.{forged}

-- The conditions of document 01's list, in its order: 1 the tables' sizes, 2 the times, 3 idle, 4 each task stands once, 5 both lines in
-- order, 6 bases and ceilings in range, 7 a task holds at most one object, 8 an object has at most one holder and one waiter, 9 a holder is ready,
-- 10 holder and waiter are admitted, 11 before Start. What is said of a state: 1 if it is sound, else 0; and the conditions that fail.
abbrev failing : ℕ → Machine → List (Machine → Bool) → List ℕ
failing n m [] = []
failing n m (meets ∷ l) = cond (meets m) (failing (suc n) m l) (n ∷ failing (suc n) m l)

abbrev judged : Machine → List ℕ
judged m = one_if (sound m) ∷ failing 1 m conditions

abbrev sound_row : Machine → Machine × List ℕ
sound_row m = (m, 1 ∷ [])

-- spoilt in that condition, and in no other
abbrev spoilt : ℕ → Machine → Machine × List ℕ
spoilt n m = (m, 0 ∷ n ∷ [])

-- 25, of base 8, sleeps until 14 and 22 until 9; 21 waits on object 6; 23 runs and holds object 2, whose ceiling is its base; 24 and idle stand behind it.
abbrev full : Machine
full = made ▸ create 25 8 ▸ start ▸ delay 14 ▸ delay 9 ▸ entry 6 0 ▸ open' 2 ▸ advance 4

-- full with other lines; a state with one waiting line changed; with another base or ceiling; with other hands
abbrev lined : List ℕ → List (ℕ × ℕ) → Machine
lined ready delayed = with_lines full ready delayed full.queue

abbrev waited : Machine → ℕ → List ℕ → Machine
waited m o l = with_lines m m.ready m.delay (set m.queue o l)

abbrev based : Machine → ℕ → ℕ → Machine
based m t p = with_set_up m (set m.base t p) m.ceiling m.started

abbrev ceiled : Machine → ℕ → ℕ → Machine
ceiled m o p = with_set_up m m.base (set m.ceiling o p) m.started

abbrev handed : Machine → ℕ → ℕ → ℕ → Machine
handed m t o way = with_hands m (set m.held t o) (set m.way t way)

-- full's own lines
abbrev asleep : List (ℕ × ℕ)
asleep = (9, 22) ∷ (14, 25) ∷ []

-- made, but 24 stands elsewhere
abbrev gone : List (ℕ × ℕ) → Machine
gone delayed = with_lines made (22 ∷ 21 ∷ 23 ∷ 0 ∷ []) delayed made.queue

abbrev states : List (Machine × List ℕ)
states =
    -- sound states, and each limit from within
    sound_row fresh ∷
    sound_row made ∷
    sound_row full ∷
    sound_row (made ▸ create 31 15 ▸ object 5 15) ∷  -- the last base and ceiling
    sound_row (later full (2 ^ 64 - 5)) ∷  -- the last clock
    sound_row (lined full.ready ((9, 22) ∷ (2 ^ 64 - 1, 25) ∷ [])) ∷  -- the last time
    sound_row (lined full.ready ((0, 22) ∷ (0, 25) ∷ [])) ∷  -- times that are equal and have come, time 0 too
    sound_row (handed full 23 2 for_entry) ∷  -- held for an entry
    sound_row (based full 21 4) ∷  -- a waiter whose base is the ceiling (full has such a holder)
    sound_row (handed (lined (24 ∷ 23 ∷ 0 ∷ []) asleep) 24 7 for_open) ∷  -- in order by active priority, and not by base
    sound_row forged ∷
    -- 1: tasks 0..31, objects 0..7: each table a cell too long, and a cell too short
    spoilt 1 (with_set_up fresh (replicate 33 0) fresh.ceiling false) ∷
    spoilt 1 (with_set_up fresh (replicate 31 0) fresh.ceiling false) ∷
    spoilt 1 (with_set_up fresh fresh.base (replicate 9 0) false) ∷
    spoilt 1 (with_set_up fresh fresh.base (replicate 7 0) false) ∷
    spoilt 1 (with_hands fresh (replicate 33 0) fresh.way) ∷
    spoilt 1 (with_hands fresh (replicate 31 0) fresh.way) ∷
    spoilt 1 (with_hands fresh fresh.held (replicate 33 0)) ∷
    spoilt 1 (with_hands fresh fresh.held (replicate 31 0)) ∷
    spoilt 1 (with_lines fresh fresh.ready [] (replicate 9 [])) ∷
    spoilt 1 (with_lines fresh fresh.ready [] (replicate 7 [])) ∷
    -- 2: the clock and delay times run over 0..2^64-1
    spoilt 2 (later full (2 ^ 64 - 4)) ∷
    spoilt 2 (lined full.ready ((9, 22) ∷ (2 ^ 64, 25) ∷ [])) ∷
    -- 3: task 0 is created with base 0, ready, holding nothing
    spoilt 3 (based full 0 1) ∷  -- it has a base
    spoilt 3 (lined (23 ∷ 24 ∷ []) (asleep ++ ((20, 0) ∷ []))) ∷  -- it sleeps
    spoilt 3 (waited (lined (23 ∷ 24 ∷ []) asleep) 1 (0 ∷ [])) ∷  -- it waits
    spoilt 3 (handed (lined (0 ∷ 23 ∷ 24 ∷ []) asleep) 0 7 for_open) ∷  -- it holds an object
    -- 4: each created task stands in exactly one of ready, delayed, waiting, and once there
    spoilt 4 (lined (23 ∷ 0 ∷ []) asleep) ∷  -- 24 stands nowhere
    spoilt 4 (lined (23 ∷ 24 ∷ 24 ∷ 0 ∷ []) asleep) ∷  -- twice ready
    spoilt 4 (lined (23 ∷ 24 ∷ 0 ∷ 0 ∷ []) asleep) ∷  -- idle twice ready
    spoilt 4 (lined full.ready ((9, 22) ∷ asleep)) ∷  -- twice delayed
    spoilt 4 (waited full 7 (21 ∷ [])) ∷  -- twice waiting
    spoilt 4 (lined full.ready (asleep ++ ((20, 24) ∷ []))) ∷  -- ready and delayed
    spoilt 4 (waited full 7 (24 ∷ [])) ∷  -- ready and waiting
    spoilt 4 (waited full 7 (22 ∷ [])) ∷  -- delayed and waiting
    -- 4: no other task stands anywhere: 26, which is not created, and 32, which is no task
    spoilt 4 (lined (23 ∷ 24 ∷ 26 ∷ 0 ∷ []) asleep) ∷
    spoilt 4 (lined full.ready (asleep ++ ((20, 26) ∷ []))) ∷
    spoilt 4 (waited full 7 (26 ∷ [])) ∷
    spoilt 4 (lined (23 ∷ 24 ∷ 0 ∷ 32 ∷ []) asleep) ∷
    spoilt 4 (lined full.ready (asleep ++ ((20, 32) ∷ []))) ∷
    spoilt 4 (waited full 7 (32 ∷ [])) ∷
    -- 5: both lines are in order
    spoilt 5 (lined (24 ∷ 23 ∷ 0 ∷ []) asleep) ∷  -- a lower task ahead
    spoilt 5 (lined (23 ∷ 0 ∷ 24 ∷ []) asleep) ∷  -- idle not last
    spoilt 5 (handed full 24 7 for_open) ∷  -- in order by base, and not by active priority
    spoilt 5 (lined full.ready ((14, 25) ∷ (9, 22) ∷ [])) ∷
    -- 6: bases and ceilings are in range, and object 0 is never declared
    spoilt 6 (based (lined (24 ∷ 23 ∷ 0 ∷ []) asleep) 24 16) ∷
    spoilt 6 (ceiled full 7 16) ∷
    spoilt 6 (ceiled full 0 8) ∷
    -- 7: a task holds at most one object, and that in one of the two ways
    spoilt 7 (handed full 23 2 0) ∷  -- in none
    spoilt 7 (handed full 23 2 3) ∷  -- in a third
    spoilt 7 (handed full 24 0 for_open) ∷  -- a way without an object
    spoilt 7 (handed full 22 0 for_entry) ∷
    -- 8: each object is held by at most one task and waited on by at most one
    spoilt 8 (handed full 24 2 for_open) ∷
    spoilt 8 (waited (lined (23 ∷ 0 ∷ []) asleep) 6 (21 ∷ 24 ∷ [])) ∷
    -- 9: a holder is ready
    spoilt 9 (handed (lined (23 ∷ 0 ∷ []) (asleep ++ ((20, 24) ∷ []))) 24 7 for_open) ∷  -- it sleeps
    spoilt 9 (handed full 21 7 for_open) ∷  -- it waits
    -- 10: holder and waiter have base at most the ceiling of a declared object
    spoilt 10 (handed full 24 5 for_open) ∷  -- object 5, which is not declared, is held
    spoilt 10 (handed full 24 8 for_open) ∷  -- object 8, which is none
    spoilt 10 (based full 23 4) ∷  -- a holder above the ceiling
    spoilt 10 (waited (waited full 6 []) 5 (21 ∷ [])) ∷  -- a waiter on object 5
    spoilt 10 (waited (waited full 6 []) 0 (21 ∷ [])) ∷  -- on object 0
    spoilt 10 (based full 21 5) ∷  -- a waiter above the ceiling
    -- 11: before Start the clock is 0 and nothing is delayed, waiting or held
    spoilt 11 (later made 6) ∷
    spoilt 11 (gone ((9, 24) ∷ [])) ∷  -- delayed
    spoilt 11 (gone ((0, 24) ∷ [])) ∷  -- delayed, and its time has come
    spoilt 11 (waited (gone []) 7 (24 ∷ [])) ∷
    spoilt 11 (handed made 22 7 for_open) ∷ []

pub unsound : otherwise judged states ≡ []
unfolding sound all_below next refusal carry leave release
unsound = refl

-- The promise on releases is not one of every sound state. 21 and 22 have base 1, 23 has base 5 and is due; 21 holds object 4 and 22 object 6, both
-- of ceiling 9. That 22 holds an object is forged: no run lets it open one while 21, in front of it, holds its own.
abbrev pub two_holders : Machine
two_holders = handed (fresh ▸ create 21 1 ▸ create 22 1 ▸ create 23 5 ▸ object 4 9 ▸ object 6 9 ▸ start ▸ delay 8 ▸ open' 4 ▸ advance 8) 22 6 for_open

abbrev says : ℕ → ℕ → ℕ → Answer
says code running released = record { code = code; running = running; released = released }

-- The state is sound; a Wake releases 23, and 21 runs, of lower base; it closes its object, and 22 runs, of lower base too; it closes its own, and 23 runs.
pub two_lower_tasks :
    (sound two_holders ≡ true)
    × (at two_holders.base 21 ∷ at two_holders.base 22 ∷ at two_holders.base 23 ∷ [] ≡ 1 ∷ 1 ∷ 5 ∷ [])
    × (answers two_holders (wake ∷ closep 4 0 ∷ closep 6 0 ∷ []) ≡ says 0 21 23 ∷ says 0 22 0 ∷ says 0 23 0 ∷ [])
unfolding sound all_below answers answer released next refusal carry leave release
two_lower_tasks = (refl, refl, refl)

-- So `one_lower_task` (Theorems), said of every sound state, is false.
pub not_of_every_sound_state : ((m : Machine) (c : Command) (to-i to_j : List Command) → sound m ≡ true → let now = next m c in let t = released m c in
    t ≢ 0 → All (λ s. running s ≢ t) (moments now to-i) → All (λ s. running s ≢ t) (moments now to_j)
    → at now.base (running (run now to-i)) < at now.base t → at now.base (running (run now to_j)) < at now.base t
    → running (run now to-i) ≡ running (run now to_j)) → ⊥
unfolding sound all_below run moments released next refusal carry leave release
not_of_every_sound_state f =
    let lower : 1 < 5 = omega arith in
    eqb-false 21 22 refl
    (f two_holders wake [] (closep 4 0 ∷ []) refl (eqb-false 23 0 refl) (eqb-false 21 23 refl, tt)
    (eqb-false 21 23 refl, (eqb-false 22 23 refl, tt)) lower lower)
