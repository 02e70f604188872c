-- The op table of document 01, with request 2's `done` and request 6's closings by an exception: what each command does when it is accepted.
-- A row says what is asked for, as an Effect; one function, carry, does it.
use Rattle.std.specs.Prelude.{ℕ, ◌+◌, Bool, true, cond, not, ◌&&◌, List, [], ◌∷◌, ◌++◌, eqb, leb, ltb, get_or, set}
use Rattle.rules.specs.Line.{at, front, empty, first_few, behind_few, first_alone, behind_front}
use Rattle.rules.specs.Line.{at_tail, at_head, by_time}
use Rattle.rules.specs.Machine.{Machine, Command, active, runner, tasks, for_open, for_entry}
use Rattle.rules.specs.declared.Kind.{Kind}
use Rattle.rules.specs.declared.Kind.TheVariants.{NoKind, Creating, Declaring, Starting, Delaying}
use Rattle.rules.specs.declared.Kind.TheVariants.{Waking, Advancing, Opening, Entering, Ending}
use Rattle.rules.specs.Kinds.{kind}

-- The way out of the runner: where it goes.
pub data Out : Type 0 where
  same : Out  -- it stays where it is
  take : ℕ → ℕ → Out  -- it holds the object, in that way, and stays in front: its active priority only rises
  yield : Out  -- to the tail of its base
  close : Out  -- it holds nothing, and goes to the head of its base
  sleep : ℕ → Out  -- into the delay line, until that time
  await : ℕ → Out  -- out of the line, to wait on the object

-- The release: who is released, if anyone.
pub data Rel : Type 0 where
  none : Rel
  due : Rel  -- the first of the delay line (a row asks for it only where that is due)
  serve : ℕ → ℕ → Rel  -- of those that wait on the object the first, at most that many: nobody, if none waits

pub data Effect : Type 0 where
  nothing : Effect  -- of what is no op
  creates : ℕ → ℕ → Effect  -- a task and its base; an object and its ceiling
  declares : ℕ → ℕ → Effect
  begins : Effect
  moves : Out → Rel → ℕ → Effect  -- where the runner goes, who is released, and by how much the clock grows

-- the first delay entry's time is at most the clock
abbrev pub first_due : Machine → Bool
first_due m = not (empty m.delay) && leb (front (0, 0) m.delay).0 m.clock

-- The barrier that a command gives is open: b is 1.
abbrev pub opens : Command → Bool
opens c = eqb c.b 1

-- The end of a body. 8 closep a=object b=barrier: if b is 1 and a task waits on the object, it goes to the tail of its
-- base and is released; then the runner holds nothing and goes to the head of its base. 9 closef a=object: the runner
-- holds nothing and goes to the head of its base. 11 done a=object b=barrier: ends an entry, and treats a waiter as
-- closep does. (Request 2. In document 01 `done` had no barrier, and a waiting task was not looked at; Ada 9.5.3
-- serves the queue after every protected action that may change a barrier.)
abbrev pub closing : Bool → Command → Effect
closing serves c = moves close (cond (serves && opens c) (serve c.a 1) none) 0

-- The table: a row for each kind of command.
abbrev pub effect_of : Kind → Machine → Command → Effect
effect_of NoKind m c = nothing
-- 1 create a=task b=priority: created, placed at the tail of its base
effect_of Creating m c = creates c.a c.b
-- 2 object a=object b=ceiling: declared
effect_of Declaring m c = declares c.a c.b
-- 3 start: the front runs
effect_of Starting m c = begins
-- 4 delay value=time: time above the clock: into the delay line. Otherwise: the runner goes to the tail of its base
-- and stays ready
effect_of Delaying m c = moves (cond (ltb m.clock c.value) (sleep c.value) yield) none 0
-- 5 wake: the first delay entry, if its time is at most the clock, goes to the tail of its base and is the released
-- task; otherwise nothing changes
effect_of Waking m c = moves same (cond (first_due m) due none) 0
-- 6 advance value=ticks: the clock grows by that much; 0 is allowed
effect_of Advancing m c = moves same none c.value
-- 7 open a=object: the runner holds it, for a procedure or function
effect_of Opening m c = moves (take c.a for_open) none 0
-- 10 entry a=object b=barrier: b 1: the runner holds it, for an entry, whoever waits. b 0: the runner leaves the line
-- and waits on the object
effect_of Entering m c = moves (cond (eqb c.b 1) (take c.a for_entry) (await c.a)) none 0
-- 8 closep, 9 closef, 11 done, and 12 to 15, which end it by an exception: the end of a body, which serves by its
-- barrier or has none
effect_of (Ending e) m c = closing e.serves c

abbrev pub effect : Machine → Command → Effect
effect m c = effect_of (kind c) m c

-- The machine with other bases and ceilings, started or not; with other lines; with other objects held; and some ticks
-- later.
abbrev pub with_set_up : Machine → List ℕ → List ℕ → Bool → Machine
with_set_up m base ceiling started = record {
  base = base;
  ceiling = ceiling;
  held = m.held;
  way = m.way;
  queue = m.queue;
  ready = m.ready;
  delay = m.delay;
  clock = m.clock;
  started = started;
}

abbrev pub with_lines : Machine → List ℕ → List (ℕ × ℕ) → List (List ℕ) → Machine
with_lines m ready delay queue = record {
  base = m.base;
  ceiling = m.ceiling;
  held = m.held;
  way = m.way;
  queue = queue;
  ready = ready;
  delay = delay;
  clock = m.clock;
  started = m.started;
}

abbrev pub with_hands : Machine → List ℕ → List ℕ → Machine
with_hands m held way = record {
  base = m.base;
  ceiling = m.ceiling;
  held = held;
  way = way;
  queue = m.queue;
  ready = m.ready;
  delay = m.delay;
  clock = m.clock;
  started = m.started;
}

-- something else in the runner's hands: the object, held in that way (0 and 0 for nothing)
abbrev pub with_hand : Machine → ℕ → ℕ → Machine
with_hand m o w = with_hands m (set m.held (runner m) o) (set m.way (runner m) w)

abbrev pub later : Machine → ℕ → Machine
later m n = record {
  base = m.base;
  ceiling = m.ceiling;
  held = m.held;
  way = m.way;
  queue = m.queue;
  ready = m.ready;
  delay = m.delay;
  clock = m.clock + n;
  started = m.started;
}

-- Those who are released, in their order: each goes to the tail of its base. (At most one: a row asks for no more.)
abbrev pub freed : Rel → Machine → List ℕ
freed none m = []
freed due m = first_alone (tasks m.delay)
freed (serve o n) m = first_few n (get_or m.queue o [])

abbrev pub enter : Machine → List ℕ → List ℕ → List ℕ
enter m [] l = l
enter m (t ∷ ts) l = enter m ts (at_tail (active m) (at m.base t) t l)

unfoldable pub release : Rel → Machine → Machine
release none m = m
release due m = with_lines m (enter m (freed due m) m.ready) (behind_front m.delay) m.queue
release (serve o n) m =
    let left = behind_few n (get_or m.queue o []) in
    with_lines m (enter m (freed (serve o n) m) m.ready) m.delay (set m.queue o left)

-- Then the runner goes its way, and is placed by the active priorities that the tasks then have. (It is the front of
-- the line still: whom a closing releases has a base of at most the ceiling. proofs/Accepted, runner-stays.)
unfoldable pub leave : Out → Machine → Machine
leave same m = m
leave (take o w) m = with_hand m o w
leave yield m =
    let line = at_tail (active m) (at m.base (runner m)) (runner m) (behind_front m.ready) in
    with_lines m line m.delay m.queue
leave close m =
    let n = with_hand m 0 0 in
    let line = at_head (active n) (at m.base (runner m)) (runner m) (behind_front m.ready) in
    with_lines n line m.delay m.queue
leave (sleep d) m = with_lines m (behind_front m.ready) (by_time (d, runner m) m.delay) m.queue
leave (await o) m =
    let waiting = get_or m.queue o [] ++ (runner m ∷ []) in
    with_lines m (behind_front m.ready) m.delay (set m.queue o waiting)

-- Carrying a row out: first the release, then the runner's way out, then the clock.
unfoldable pub carry : Machine → Effect → Machine
carry m nothing = m
carry m (creates t p) =
    let n = with_set_up m (set m.base t p) m.ceiling m.started in
    with_lines n (at_tail (active n) p t m.ready) m.delay m.queue
carry m (declares o p) = with_set_up m m.base (set m.ceiling o p) m.started
carry m begins = with_set_up m m.base m.ceiling true
carry m (moves out rel n) = later (leave out (release rel m)) n

-- the task that a row releases, 0 for nobody
abbrev pub freed_by : Effect → Machine → ℕ
freed_by nothing m = 0
freed_by (creates t p) m = 0
freed_by (declares o p) m = 0
freed_by begins m = 0
freed_by (moves out rel n) m = front 0 (freed rel m)
