-- The queue at work, by computing: registers and table along a short run, whom the search finds, and what becomes of a past delay. Assumes nothing.
use Prim.Native.Nat.{ℕ, zero, suc}
use mathlib.Core.Path.{◌≡◌, refl, ap, ◌∙◌}
use mathlib.Core.Bool.{cond, ◌&&◌}
use mathlib.Core.List.{List, [], ◌∷◌, ◌++◌}
use lib.Dec.{eqb}
use lib.ListN.{set, replicate}
use Rattle.rules.specs.Machine.{Command, task_count}
use Rattle.rules.specs.Table.{carry, leave, release}
use Rattle.rules.specs.Refusals.{refusal}
use Rattle.rules.specs.Run.{released}
use Rattle.rules.specs.Run as R
use Rattle.rules.proofs.Script.{create, object, start, delay, wake, advance, open', closef, otherwise}
use Rattle.queue_chip.specs.declared.Queue.{Queue}
use Rattle.queue_chip.specs.Queue.{none, older, aged, preempts, insert, soonest, searched, moved_up, taken, woken, how_many, ahead_of, left}
use Rattle.queue_chip.specs.Queue.{above, delayed, follow, beside}
use Rattle.queue_chip.specs.Queue as Q
use Rattle.queue_chip.specs.Chip.{Chip, fresh, next, answer, question, run}

-- the cells of a table that are not free, by task number: task, time, age
abbrev cells : ℕ → List ℕ → List ℕ → List ℕ
cells t [] ages = []
cells t (n ∷ times) [] = []
cells t (n ∷ times) (a ∷ ages) = cond (eqb n 0 && eqb a 0) [] (t ∷ n ∷ a ∷ []) ++ cells (suc t) times ages

-- the registers, and the cells
abbrev shown : Queue → List ℕ
shown q = q.task ∷ q.time ∷ q.age ∷ cells 0 q.times q.ages

-- what each command gives: code, running, released; and the queue behind it
abbrev all_give : Chip → List Command → List (List ℕ)
all_give k [] = []
all_give k (c ∷ cs) = let a = answer k c in (a.code ∷ a.running ∷ a.released ∷ shown (next k c).queue) ∷ all_give (next k c) cs

abbrev line : ℕ → ℕ → ℕ → List ℕ → List ℕ
line code running released queue = code ∷ running ∷ released ∷ queue

abbrev made : Chip
made = run fresh (create 21 9 ∷ create 22 8 ∷ create 23 7 ∷ create 24 6 ∷ create 25 5 ∷ start ∷ advance 10 ∷ [])

-- 21 and 23 sleep until 50, 22 and 24 until 40; 22, the sooner, pushes 21 out of the registers, and 24, of the same time, does not push 22. 25's delay until
-- 10 is not above the clock, which is 10. 22 wakes, and the search finds 24; 22 sleeps again, until 50, as the youngest; 24 wakes, and of the three that are
-- left, all until 50, the search finds the oldest.
abbrev until_40 : List Command
until_40 = delay 50 ∷ delay 40 ∷ delay 50 ∷ delay 40 ∷ delay 10 ∷ wake ∷ advance 30 ∷ []

abbrev delays : List Command
delays = until_40 ++ (wake ∷ delay 50 ∷ wake ∷ wake ∷ [])

pub run_shows : all_give made delays ≡
    line 0 22 0 (21 ∷ 50 ∷ 1 ∷ []) ∷
    line 0 23 0 (22 ∷ 40 ∷ 1 ∷ 21 ∷ 50 ∷ 1 ∷ []) ∷
    line 0 24 0 (22 ∷ 40 ∷ 1 ∷ 21 ∷ 50 ∷ 2 ∷ 23 ∷ 50 ∷ 1 ∷ []) ∷
    line 0 25 0 (22 ∷ 40 ∷ 2 ∷ 21 ∷ 50 ∷ 2 ∷ 23 ∷ 50 ∷ 1 ∷ 24 ∷ 40 ∷ 1 ∷ []) ∷
    line 0 25 0 (22 ∷ 40 ∷ 2 ∷ 21 ∷ 50 ∷ 2 ∷ 23 ∷ 50 ∷ 1 ∷ 24 ∷ 40 ∷ 1 ∷ []) ∷
    line 0 25 0 (22 ∷ 40 ∷ 2 ∷ 21 ∷ 50 ∷ 2 ∷ 23 ∷ 50 ∷ 1 ∷ 24 ∷ 40 ∷ 1 ∷ []) ∷
    line 0 25 0 (22 ∷ 40 ∷ 2 ∷ 21 ∷ 50 ∷ 2 ∷ 23 ∷ 50 ∷ 1 ∷ 24 ∷ 40 ∷ 1 ∷ []) ∷
    line 0 22 22 (24 ∷ 40 ∷ 1 ∷ 21 ∷ 50 ∷ 2 ∷ 23 ∷ 50 ∷ 1 ∷ []) ∷
    line 0 25 0 (24 ∷ 40 ∷ 1 ∷ 21 ∷ 50 ∷ 3 ∷ 22 ∷ 50 ∷ 1 ∷ 23 ∷ 50 ∷ 2 ∷ []) ∷
    line 0 24 24 (21 ∷ 50 ∷ 3 ∷ 22 ∷ 50 ∷ 1 ∷ 23 ∷ 50 ∷ 2 ∷ []) ∷
    line 0 24 0 (21 ∷ 50 ∷ 3 ∷ 22 ∷ 50 ∷ 1 ∷ 23 ∷ 50 ∷ 2 ∷ []) ∷ []
unfolding insert delayed above preempts older aged soonest searched moved_up taken Q.wake follow beside next answer run
    R.next R.answer released refusal carry leave release
run_shows = refl

-- Ten ticks later all three are due: each has as many Wakes left as stand before it, and one for itself. They leave from the oldest to the youngest, and then
-- the queue is empty.
abbrev later : Chip
later = run made (delays ++ (advance 10 ∷ []))

pub wakes_show : all_give later (wake ∷ wake ∷ wake ∷ wake ∷ []) ≡
    line 0 21 21 (23 ∷ 50 ∷ 2 ∷ 22 ∷ 50 ∷ 1 ∷ []) ∷
    line 0 21 23 (22 ∷ 50 ∷ 1 ∷ []) ∷
    line 0 21 22 (0 ∷ 0 ∷ 0 ∷ []) ∷
    line 0 21 0 (0 ∷ 0 ∷ 0 ∷ []) ∷ []
unfolding insert delayed above preempts older aged soonest searched moved_up taken Q.wake follow beside next answer run
    R.next R.answer released refusal carry leave release
wakes_show = refl

abbrev lefts : Chip → List ℕ → List (List ℕ)
lefts k [] = []
lefts k (t ∷ ts) = let a = question k t in (t ∷ a.code ∷ a.left ∷ []) ∷ lefts k ts

pub lefts_show : lefts later (21 ∷ 22 ∷ 23 ∷ 24 ∷ 25 ∷ 26 ∷ 0 ∷ 32 ∷ []) ≡
    (21 ∷ 0 ∷ 1 ∷ []) ∷ (22 ∷ 0 ∷ 3 ∷ []) ∷ (23 ∷ 0 ∷ 2 ∷ []) ∷ (24 ∷ 0 ∷ 0 ∷ []) ∷ (25 ∷ 0 ∷ 0 ∷ []) ∷
    (26 ∷ 6 ∷ 0 ∷ []) ∷ (0 ∷ 4 ∷ 0 ∷ []) ∷ (32 ∷ 4 ∷ 0 ∷ []) ∷ []
unfolding insert delayed above preempts older aged soonest searched moved_up taken Q.wake follow beside next question how_many ahead_of left run
    R.next released refusal carry leave release
lefts_show = refl

-- Who is not due has none left. At 40 the registers and one of the table are due, two of the table are not; then three until 50, in registers and table.
-- And nobody is delayed: idle has none left.
pub not_due_shows : (lefts (run made until_40) (21 ∷ 22 ∷ 23 ∷ 24 ∷ []) ++ lefts (run made delays) (21 ∷ 22 ∷ 23 ∷ []) ++ ((left 90 0 none ∷ []) ∷ [])) ≡
    (21 ∷ 0 ∷ 0 ∷ []) ∷ (22 ∷ 0 ∷ 1 ∷ []) ∷ (23 ∷ 0 ∷ 0 ∷ []) ∷ (24 ∷ 0 ∷ 2 ∷ []) ∷
    (21 ∷ 0 ∷ 0 ∷ []) ∷ (22 ∷ 0 ∷ 0 ∷ []) ∷ (23 ∷ 0 ∷ 0 ∷ []) ∷
    (0 ∷ []) ∷ []
unfolding insert delayed above preempts older aged soonest searched moved_up taken Q.wake follow beside next question how_many ahead_of left run
    R.next released refusal carry leave release
not_due_shows = refl

-- ## Registers that are pushed out with an age of 2, and delays that are refused
-- 21 and 22 sleep until 60: 21 has the age 2 when 23, until 45, pushes it out, and keeps it. 24's delay until 30 is refused, for it holds an object (8); and so
-- is idle's (7): neither is queued. At 60 all four leave, by time and then by age.
abbrev with_object : Chip
with_object = run fresh (create 21 9 ∷ create 22 8 ∷ create 23 7 ∷ create 24 6 ∷ object 3 12 ∷ start ∷ advance 10 ∷ [])

pub pushes_show : all_give with_object
    (delay 60 ∷ delay 60 ∷ delay 45 ∷ open' 3 ∷ delay 30 ∷ closef 3 ∷ delay 45 ∷ delay 30 ∷ advance 50 ∷ wake ∷ wake ∷ wake ∷ wake ∷ []) ≡
    line 0 22 0 (21 ∷ 60 ∷ 1 ∷ []) ∷
    line 0 23 0 (21 ∷ 60 ∷ 2 ∷ 22 ∷ 60 ∷ 1 ∷ []) ∷
    line 0 24 0 (23 ∷ 45 ∷ 1 ∷ 21 ∷ 60 ∷ 2 ∷ 22 ∷ 60 ∷ 1 ∷ []) ∷
    line 0 24 0 (23 ∷ 45 ∷ 1 ∷ 21 ∷ 60 ∷ 2 ∷ 22 ∷ 60 ∷ 1 ∷ []) ∷
    line 8 24 0 (23 ∷ 45 ∷ 1 ∷ 21 ∷ 60 ∷ 2 ∷ 22 ∷ 60 ∷ 1 ∷ []) ∷
    line 0 24 0 (23 ∷ 45 ∷ 1 ∷ 21 ∷ 60 ∷ 2 ∷ 22 ∷ 60 ∷ 1 ∷ []) ∷
    line 0 0 0 (23 ∷ 45 ∷ 2 ∷ 21 ∷ 60 ∷ 2 ∷ 22 ∷ 60 ∷ 1 ∷ 24 ∷ 45 ∷ 1 ∷ []) ∷
    line 7 0 0 (23 ∷ 45 ∷ 2 ∷ 21 ∷ 60 ∷ 2 ∷ 22 ∷ 60 ∷ 1 ∷ 24 ∷ 45 ∷ 1 ∷ []) ∷
    line 0 0 0 (23 ∷ 45 ∷ 2 ∷ 21 ∷ 60 ∷ 2 ∷ 22 ∷ 60 ∷ 1 ∷ 24 ∷ 45 ∷ 1 ∷ []) ∷
    line 0 23 23 (24 ∷ 45 ∷ 1 ∷ 21 ∷ 60 ∷ 2 ∷ 22 ∷ 60 ∷ 1 ∷ []) ∷
    line 0 23 24 (21 ∷ 60 ∷ 2 ∷ 22 ∷ 60 ∷ 1 ∷ []) ∷
    line 0 21 21 (22 ∷ 60 ∷ 1 ∷ []) ∷
    line 0 21 22 (0 ∷ 0 ∷ 0 ∷ []) ∷ []
unfolding insert delayed above preempts older aged soonest searched moved_up taken Q.wake follow beside next answer run
    R.next R.answer released refusal carry leave release
pushes_show = refl

-- ## The search of a table that is given by its cells: task, time, age
abbrev table : List (ℕ × ℕ × ℕ) → List ℕ × List ℕ
table [] = (replicate task_count 0, replicate task_count 0)
table (c ∷ l) = let r = table l in (set r.0 c.0 c.1, set r.1 c.0 c.2)

abbrev finds : List (ℕ × ℕ × ℕ) → ℕ → List (ℕ × ℕ × ℕ) × List ℕ
finds l t = (l, t ∷ [])

-- nobody; the first and the last task; the least time before, between and behind others; the oldest of three; a sooner time though it is younger, behind
-- the others and before one
pub search_shows :
    otherwise (λ l. (let t = table l in searched t.0 t.1 ∷ []))
    (finds [] 0 ∷ finds ((1, 70, 1) ∷ []) 1 ∷ finds ((31, 70, 1) ∷ []) 31 ∷
    finds ((3, 60, 1) ∷ (17, 61, 1) ∷ (31, 62, 1) ∷ []) 3 ∷ finds ((3, 61, 1) ∷ (17, 60, 1) ∷ (31, 62, 1) ∷ []) 17 ∷
    finds ((3, 62, 1) ∷ (17, 61, 1) ∷ (31, 60, 1) ∷ []) 31 ∷
    finds ((5, 44, 1) ∷ (7, 44, 2) ∷ (9, 44, 3) ∷ []) 9 ∷ finds ((5, 44, 2) ∷ (7, 44, 3) ∷ (9, 44, 1) ∷ []) 7 ∷
    finds ((5, 44, 3) ∷ (7, 44, 1) ∷ (9, 44, 2) ∷ []) 5 ∷
    finds ((8, 90, 2) ∷ (12, 90, 1) ∷ (30, 89, 1) ∷ []) 30 ∷ finds ((8, 89, 1) ∷ (12, 90, 2) ∷ []) 8 ∷
    finds ((8, 0, 1) ∷ (12, 1, 1) ∷ []) 8 ∷ [])
    ≡ []
unfolding soonest searched
search_shows = refl

-- ## A past delay
-- At clock 90 task 21, until 80, is due and stands in the registers. A delay of 22 until 30, or until 90, queues nobody.
abbrev first : Queue
first = insert 80 21 none

pub past_delay_shows :
    (shown (delayed 90 30 22 first) ∷ shown (delayed 90 90 22 first) ∷ shown (delayed 90 91 22 first) ∷ []) ≡
    (21 ∷ 80 ∷ 1 ∷ []) ∷ (21 ∷ 80 ∷ 1 ∷ []) ∷ (21 ∷ 80 ∷ 1 ∷ 22 ∷ 91 ∷ 1 ∷ []) ∷ []
unfolding insert delayed above preempts older aged
past_delay_shows = refl

-- If it were queued: 22 would push 21 out of the registers, and 21, which had one Wake left, would have two. The Wake releases 22, and leaves the queue as
-- it was: so 22 can do it again, as often as it likes, and 21 stays due for ever.
abbrev round : Queue → Queue
round q = Q.wake 90 (insert 30 22 q)

pub past_delay_queued :
    (shown (insert 30 22 first) ∷ (left 90 21 first ∷ left 90 21 (insert 30 22 first) ∷ woken 90 (insert 30 22 first) ∷ []) ∷ shown (round first) ∷ []) ≡
    (22 ∷ 30 ∷ 1 ∷ 21 ∷ 80 ∷ 1 ∷ []) ∷ (1 ∷ 2 ∷ 22 ∷ []) ∷ (21 ∷ 80 ∷ 1 ∷ []) ∷ []
unfolding insert preempts older aged soonest searched moved_up taken woken Q.wake how_many ahead_of left
past_delay_queued = refl

abbrev rounds : ℕ → Queue → Queue
rounds zero q = q
rounds (suc k) q = rounds k (round q)

round_is_vain : round first ≡ first
unfolding insert preempts soonest searched moved_up taken Q.wake
round_is_vain = refl

pub due_for_ever : (k : ℕ) → rounds k first ≡ first
due_for_ever zero = refl
due_for_ever (suc k) = ap (rounds k) round_is_vain ∙ due_for_ever k
