-- The chip's own delay queue (change request 7): the soonest task and its time in registers, the others in a table by
-- task number, which is searched when the registers are emptied. Beside each time stands its age, the order of entry
-- among equal times. Nothing here looks at a delay line.
use Rattle.std.specs.Prelude.{ℕ, zero, suc, ◌+◌, Bool, cond, not, ◌&&◌, ◌||◌, List, [], ◌∷◌, eqb, leb, ltb, set, replicate}
use Rattle.rules.specs.Line.{at, one_if}
use Rattle.rules.specs.Machine.{Machine, Command, task_count, runner}
use Rattle.rules.specs.declared.Kind.{Kind}
use Rattle.rules.specs.declared.Kind.TheVariants.{NoKind, Creating, Declaring, Starting, Delaying}
use Rattle.rules.specs.declared.Kind.TheVariants.{Waking, Advancing, Opening, Entering, Ending}
use Rattle.rules.specs.Kinds.{kind}
use Rattle.rules.specs.Run.{accepts}
use Rattle.kernel_line.specs.Tables.{more}
use Rattle.queue_chip.specs.declared.Queue.{Queue}

-- By their parts. (In document 000 the registers `task` and `time` are PidDQ and t, and the table `times` is DQ_RAM; the
-- ages are ours.)
abbrev pub queue : ℕ → ℕ → ℕ → List ℕ → List ℕ → Queue
queue task time age times ages = record { task = task; time = time; age = age; times = times; ages = ages }

-- nobody is delayed
abbrev pub none : Queue
none = queue 0 0 0 (replicate task_count 0) (replicate task_count 0)

-- An age is 1, and one more for each task that came in later for the same time: the oldest of a time has the greatest.
-- 0 is none. Whoever leaves is the oldest of its time, so the others' ages stay as they are, and none passes 31.
abbrev pub in_use : ℕ → Bool
in_use age = not (eqb age 0)

-- One more comes in for the time n: an age beside the time m; the ages of a table. (`more` counts up to what a byte
-- holds.)
unfoldable pub older : ℕ → ℕ → ℕ → ℕ
older n m age = cond (in_use age && eqb m n) (more age) age

unfoldable pub aged : ℕ → List ℕ → List ℕ → List ℕ
aged n [] ages = []
aged n (m ∷ times) [] = []
aged n (m ∷ times) (a ∷ ages) = older n m a ∷ aged n times ages

-- INSERTION of task t until n. Into empty registers it goes as it is.
abbrev pub alone : ℕ → ℕ → Queue → Queue
alone n t q = queue t n 1 q.times q.ages

-- It is sooner than the registers' time m. (An equal time is not: the older stays in the registers.)
unfoldable pub preempts : ℕ → ℕ → Bool
preempts n m = ltb n m

-- Then what the registers hold goes to the table, with its age, and the new one into the registers.
abbrev pub pushed : ℕ → ℕ → Queue → Queue
pushed n t q = queue t n 1 (set q.times q.task q.time) (set q.ages q.task q.age)

-- Otherwise it goes into the table, as the youngest of its time: the others of that time are one older.
abbrev pub tabled : ℕ → ℕ → Queue → Queue
tabled n t q =
    queue
    q.task
    q.time
    (older n q.time q.age)
    (set q.times t n)
    (set (aged n q.times q.ages) t 1)

unfoldable pub insert : ℕ → ℕ → Queue → Queue
insert n t q =
    cond (eqb q.task 0) (alone n t q)
    (cond (preempts n q.time) (pushed n t q)
    (tabled n t q))

-- A cell with the time n and the age a stands before one with the time m and the age b: it is in use, and the other is
-- not, or is later, or is of the same time and younger.
abbrev pub sooner : ℕ → ℕ → ℕ → ℕ → Bool
sooner n a m b = in_use a && (eqb b 0 || ltb n m || eqb n m && ltb b a)

abbrev pub before : List ℕ → List ℕ → ℕ → ℕ → Bool
before times ages t u = sooner (at times t) (at ages t) (at times u) (at ages u)

-- SEARCH: from task 0 on, the soonest so far is kept; 0 where the table has none.
unfoldable pub soonest : ℕ → List ℕ → List ℕ → ℕ
soonest zero times ages = 0
soonest (suc k) times ages = let best = soonest k times ages in cond (before times ages k best) k best

unfoldable pub searched : List ℕ → List ℕ → ℕ
searched times ages = soonest task_count times ages

-- The registers, emptied, are filled with the task s of the table, and its cell is free. (Where the search finds none,
-- that is cell 0, which is free already.)
unfoldable pub moved_up : ℕ → Queue → Queue
moved_up s q = queue s (at q.times s) (at q.ages s) (set q.times s 0) (set q.ages s 0)

unfoldable pub taken : Queue → Queue
taken q = moved_up (searched q.times q.ages) q

-- WAKE at a clock. The registers' task is due; whom the Wake releases, 0 for nobody; and the queue behind it.
abbrev pub due : ℕ → Queue → Bool
due now q = not (eqb q.task 0) && leb q.time now

unfoldable pub woken : ℕ → Queue → ℕ
woken now q = cond (due now q) q.task 0

unfoldable pub wake : ℕ → Queue → Queue
wake now q = cond (due now q) (taken q) q

-- "WAKES LEFT" of task t. Ahead of one in the table are the registers' task and each of the table that stands before
-- it. (Idle has none left. Empty registers read as idle's, and are not due.)
unfoldable pub how_many : ℕ → (ℕ → Bool) → ℕ
how_many zero f = 0
how_many (suc k) f = one_if (f k) + how_many k f

unfoldable pub ahead_of : ℕ → Queue → ℕ
ahead_of t q = 1 + how_many task_count (λ u. before q.times q.ages u t)

-- the task t of the table is due
abbrev pub cell_due : ℕ → ℕ → Queue → Bool
cell_due now t q = in_use (at q.ages t) && leb (at q.times t) now

unfoldable pub left : ℕ → ℕ → Queue → ℕ
left now t q = cond (eqb q.task t) (one_if (due now q)) (cond (cell_due now t q) (suc (ahead_of t q)) 0)

-- A DELAY of the runner: where its time n is above the clock the runner is inserted. Otherwise there is no delay, and
-- nothing is queued.
unfoldable pub above : ℕ → ℕ → Bool
above now n = ltb now n

unfoldable pub delayed : ℕ → ℕ → ℕ → Queue → Queue
delayed now n runner q = cond (above now n) (insert n runner q) q

-- What an accepted command does to the queue, by its kind, at that clock, with that value and that runner: those before
-- it.
unfoldable pub follow : Kind → ℕ → ℕ → ℕ → Queue → Queue
follow NoKind now value runner q = q
follow Creating now value runner q = q
follow Declaring now value runner q = q
follow Starting now value runner q = q
follow Delaying now value runner q = delayed now value runner q
follow Waking now value runner q = wake now q
follow Advancing now value runner q = q
follow Opening now value runner q = q
follow Entering now value runner q = q
follow (Ending e) now value runner q = q

-- The queue beside a machine, behind a command; a refused one changes nothing.
unfoldable pub beside : Machine → Command → Queue → Queue
beside m c q = cond (accepts m c) (follow (kind c) m.clock c.value (runner m) q) q

-- Reading the queue off, at most k entries, in the order in which they will wake: the registers, and again.
unfoldable pub read : ℕ → Queue → List (ℕ × ℕ)
read zero q = []
read (suc k) q = cond (eqb q.task 0) [] ((q.time, q.task) ∷ read k (taken q))
