-- The machine of document 01: its tasks, objects, lines and clock.
use Rattle.std.specs.Prelude.{ℕ, Bool, false, cond, not, ◌||◌, List, [], ◌∷◌, eqb, replicate}
use Rattle.rules.specs.Line.{at, count, every, front}

-- The limits, each said once: the tasks are 0..31 and the objects 0..7, bases and ceilings run to 15 and barriers to
-- 1, and one task at most waits on an object.
abbrev pub task_count : ℕ
task_count = 32

abbrev pub object_count : ℕ
object_count = 8

abbrev pub top_base : ℕ
top_base = 15

abbrev pub top_ceiling : ℕ
top_ceiling = 15

abbrev pub top_barrier : ℕ
top_barrier = 1

abbrev pub most_waiters : ℕ
most_waiters = 1

-- Tables are indexed by the task or by the object. Task 0 is idle; object 0 is the null object, which is never
-- declared.
pub record Machine : Type 0 where
  pub base : List ℕ  -- each task's base priority: 0 for idle, and for a task that is not created
  pub ceiling : List ℕ  -- each object's ceiling: 0 for one that is not declared
  pub held : List ℕ  -- the object that each task holds: 0 for none (asked by the names below alone)
  pub way : List ℕ  -- how it holds it: for-open, for-entry, or 0 for not at all (the same)
  pub queue : List (List ℕ)  -- the tasks that wait on each object, the first in first: at most one in a sound state
  pub ready : List ℕ  -- the ready tasks, highest active priority first
  pub delay : List (ℕ × ℕ)  -- the delayed tasks, each with its time before it
  pub clock : ℕ
  pub started : Bool

-- held for a procedure or function (7 begins it; 8, 9, 12, 13 and 15 end it), or for an entry (10 begins it; 11 and 14
-- end it)
abbrev pub for_open : ℕ
for_open = 1

abbrev pub for_entry : ℕ
for_entry = 2

-- The fresh machine has task 0 alone, no object, clock 0, and is not started.
abbrev pub fresh : Machine
fresh = record {
  base = replicate task_count 0;
  ceiling = replicate object_count 0;
  held = replicate task_count 0;
  way = replicate task_count 0;
  queue = replicate object_count [];
  ready = 0 ∷ [];
  delay = [];
  clock = 0;
  started = false;
}

-- Task 0 is idle, always there.
abbrev pub created : Machine → ℕ → Bool
created m t = eqb t 0 || not (eqb (at m.base t) 0)

abbrev pub declared : Machine → ℕ → Bool
declared m o = not (eqb (at m.ceiling o) 0)

-- What a task holds. All else asks by these names, and not by the tables: the object that it opened last, 0 for none;
-- the way in which it holds it, 0 for none; that it holds nothing; how many tasks hold an object; that nobody holds
-- any.
abbrev pub last_opened : Machine → ℕ → ℕ
last_opened m t = at m.held t

abbrev pub way_held : Machine → ℕ → ℕ
way_held m t = at m.way t

abbrev pub empty_handed : Machine → ℕ → Bool
empty_handed m t = eqb (last_opened m t) 0

abbrev pub holders : Machine → ℕ → ℕ
holders m o = count o m.held

abbrev pub nobody_holds : Machine → Bool
nobody_holds m = every (λ o. eqb o 0) m.held

-- Active priority is the ceiling of the object held, else the base.
abbrev pub active : Machine → ℕ → ℕ
active m t = cond (empty_handed m t) (at m.base t) (at m.ceiling (last_opened m t))

-- the tasks of the delay line
abbrev pub tasks : List (ℕ × ℕ) → List ℕ
tasks [] = []
tasks (e ∷ l) = e.1 ∷ tasks l

-- The front of the ready line: after Start the running task.
abbrev pub runner : Machine → ℕ
runner m = front 0 m.ready

-- Before Start the running task is reported as 0.
abbrev pub running : Machine → ℕ
running m = cond m.started (runner m) 0

-- A command is any four numbers: what is no op, or no operand of it, is refused and never unrepresentable.
pub record Command : Type 0 where
  pub op : ℕ
  pub a : ℕ
  pub b : ℕ
  pub value : ℕ
