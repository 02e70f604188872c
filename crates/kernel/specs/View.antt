-- What the tables stand for: the machine of the rules, read off them and written into them.
use Rattle.std.specs.Prelude.{ℕ, zero, suc, Bool, cond, ◌||◌, List, [], ◌∷◌, map, eqb, leb, length, set, replicate}
use Rattle.rules.specs.Line.{at, count, front, all_of, all_below}
use Rattle.rules.specs.Machine.{Machine, task_count, object_count, tasks}
use Rattle.kernel_order.specs.Order.{ended}
pub use Rattle.kernel_checks.specs.Shown.{with_idle, nobody_or}
use Rattle.kernel.specs.declared.Kernel.{Kernel}

-- The entries of a line before its first free place.
abbrev pub live : List ℕ → List ℕ
live [] = []
live (x ∷ l) = cond (eqb x 0) [] (x ∷ live l)

-- Each delayed task with its time.
abbrev pub timed : List ℕ → List ℕ → List (ℕ × ℕ)
timed until [] = []
timed until (t ∷ l) = (at until t, t) ∷ timed until l

-- Reading the tables.
unfoldable pub view : Kernel → Machine
view k = record {
  base = k.base;
  ceiling = k.ceiling;
  held = k.held;
  way = k.way;
  queue = map nobody_or k.waiter;
  ready = with_idle k.ready;
  delay = timed k.until (live k.delayed);
  clock = k.clock;
  started = k.started;
}

-- The first n entries, with 0 for those that are missing.
abbrev pub pad : ℕ → List ℕ → List ℕ
pad zero l = []
pad (suc n) [] = 0 ∷ pad n []
pad (suc n) (x ∷ l) = x ∷ pad n l

-- The times of the delay line by task, 0 for any other task.
abbrev pub times : List (ℕ × ℕ) → List ℕ
times [] = replicate 32 0
times (e ∷ l) = set (times l) e.1 e.0

-- Writing the tables.
unfoldable pub encode : Machine → Kernel
encode m = record {
  base = m.base;
  ready = pad 32 m.ready;
  delayed = pad 32 (tasks m.delay);
  held = m.held;
  way = m.way;
  until = times m.delay;
  ceiling = m.ceiling;
  waiter = map (front 0) m.queue;
  clock = m.clock;
  started = m.started;
}

-- The tables have their sizes.
abbrev pub sized : Kernel → Bool
sized k =
    all_of
    (eqb (length k.base) task_count ∷
    eqb (length k.ready) task_count ∷
    eqb (length k.delayed) task_count ∷
    eqb (length k.held) task_count ∷
    eqb (length k.way) task_count ∷
    eqb (length k.until) task_count ∷
    eqb (length k.ceiling) object_count ∷
    eqb (length k.waiter) object_count ∷ [])

-- Tables are tidy if they have their sizes, free places stand at a line's end only, and only delayed tasks have a time.
unfoldable pub tidy : Kernel → Bool
tidy k =
    all_of
    (sized k ∷
    ended k.ready ∷
    ended k.delayed ∷
    all_below task_count (λ t. eqb (at k.until t) 0 || leb 1 (count t (live k.delayed))) ∷ [])
