-- Saved states that are sound: document 01's list, condition by condition, as a test.
use Rattle.std.specs.Prelude.{ℕ, ◌+◌, ◌^◌, Bool, cond, not, ◌&&◌, ◌||◌, List, [], ◌∷◌, eqb, leb, ltb, get_or, length}
use Rattle.rules.specs.Line.{at, count, empty, every, neighbours, all_of, all_below, among, one_if}
use Rattle.rules.specs.Machine.{Machine, active, tasks, created, declared}
use Rattle.rules.specs.Machine.{task_count, object_count, top_base, top_ceiling, most_waiters}
use Rattle.rules.specs.Machine.{last_opened, way_held, empty_handed, holders, nobody_holds, for_open, for_entry}

-- how often t waits
abbrev pub waits : ℕ → List (List ℕ) → ℕ
waits t [] = 0
waits t (q ∷ l) = count t q + waits t l

-- how often t stands in ready, delayed and waiting together
abbrev pub standings : Machine → ℕ → ℕ
standings m t = count t m.ready + count t (tasks m.delay) + waits t m.queue

-- tasks 0..31, objects 0..7; the clock and delay times run over 0..2^64-1
abbrev pub tables_sized : Machine → Bool
tables_sized m =
    all_of
    (eqb (length m.base) task_count ∷
    eqb (length m.held) task_count ∷
    eqb (length m.way) task_count ∷
    eqb (length m.ceiling) object_count ∷
    eqb (length m.queue) object_count ∷ [])

abbrev pub in_time : Machine → Bool
in_time m = ltb m.clock (2 ^ 64) && every (λ e. ltb e.0 (2 ^ 64)) m.delay

-- task 0 is created with base 0, ready, holding nothing (created it always is)
abbrev pub idle_ready : Machine → Bool
idle_ready m = eqb (at m.base 0) 0 && leb 1 (count 0 m.ready) && empty_handed m 0

-- numbers of tasks
abbrev pub tasks_only : List ℕ → Bool
tasks_only l = every (λ t. ltb t task_count) l

-- each created task stands in exactly one of ready, delayed, waiting, and once there; no other task stands anywhere
abbrev pub stand_once : Machine → Bool
stand_once m =
    all_of
    (all_below task_count (λ t. eqb (standings m t) (one_if (created m t))) ∷
    tasks_only m.ready ∷
    tasks_only (tasks m.delay) ∷
    every tasks_only m.queue ∷ [])

-- both lines are in order
abbrev pub in_order : Machine → Bool
in_order m =
    neighbours (λ a b. leb (active m b) (active m a)) m.ready && neighbours (λ e f. leb e.0 f.0) m.delay

-- bases and ceilings are in range: 1..15, or 0, which is idle's base and stands for what is not set up; object 0 never
-- is
abbrev pub in_range : Machine → Bool
in_range m = every (λ p. leb p top_base) m.base && every (λ p. leb p top_ceiling) m.ceiling && not (declared m 0)

-- a task holds at most one object (its table has one place for it), and that in one of the two ways
abbrev pub hold_one : Machine → Bool
hold_one m =
    all_below task_count (λ t.
    cond (empty_handed m t) (eqb (way_held m t) 0) (among (for_open ∷ for_entry ∷ []) (way_held m t)))

-- each object is held by at most one task and waited on by at most one
abbrev pub one_each : Machine → Bool
one_each m =
    all_below object_count (λ o. eqb o 0 || leb (holders m o) 1) && every (λ q. leb (length q) most_waiters) m.queue

-- a holder is ready
abbrev pub holders_ready : Machine → Bool
holders_ready m = all_below task_count (λ t. empty_handed m t || leb 1 (count t m.ready))

-- the task has base at most the ceiling of the object, which is declared
abbrev pub admits : Machine → ℕ → ℕ → Bool
admits m o t = declared m o && leb (at m.base t) (at m.ceiling o)

-- holder and waiter have base at most the ceiling of a declared object (so nobody waits on object 0)
abbrev pub all_admitted : Machine → Bool
all_admitted m =
    all_below task_count (λ t. empty_handed m t || admits m (last_opened m t) t) &&
    all_below object_count (λ o. every (admits m o) (get_or m.queue o []))

-- before Start the clock is 0 and nothing is delayed, waiting or held
abbrev pub quiet_before_start : Machine → Bool
quiet_before_start m =
    m.started || all_of (eqb m.clock 0 ∷ empty m.delay ∷ every (λ q. empty q) m.queue ∷ nobody_holds m ∷ [])

-- Document 01's conditions, in its order: a state is sound if it meets each.
abbrev pub conditions : List (Machine → Bool)
conditions =
    tables_sized ∷
    in_time ∷
    idle_ready ∷
    stand_once ∷
    in_order ∷
    in_range ∷
    hold_one ∷
    one_each ∷
    holders_ready ∷
    all_admitted ∷
    quiet_before_start ∷ []

unfoldable pub sound : Machine → Bool
sound m = every (λ meets. meets m) conditions
