-- What is timed: a stream of insertions and Wakes, by the chip's queue and by the delay line, and a number that gathers
-- who is the soonest behind each. Assumes nothing.
use Rattle.std.specs.Prelude.{ℕ, zero, suc, ◌+◌, ◌*◌, ◌/◌, ◌%◌, ◌^◌, cond, List, length, replicate, ◌==◌, nat_lt}
use Rattle.rules.specs.Line.{at}
use Rattle.kernel_line.specs.Tables.{place, later, pop, time_in, with_time}
use Rattle.kernel_wake.specs.Due.{due_in}
use Rattle.queue_chip.specs.declared.Queue.{Queue}
use Rattle.queue_chip.specs.Queue.{none, insert, wake}

-- a number that changes with the soonest task and its time, on top of what was gathered
abbrev pub mixed_of : ℕ → ℕ → ℕ → ℕ
mixed_of sum task time =
    (((sum % 576460752303423488 * 31 + sum / 576460752303423488) % 2 ^ 64 + time) % 2 ^ 64 + task) % 2 ^ 64

abbrev pub lesser : ℕ → ℕ → ℕ
lesser x y = cond (nat_lt y x) y x

-- a turn of the queue: task t is inserted until v; for t = 0 a Wake at the clock v
abbrev pub queue_turn : ℕ → ℕ → Queue → Queue
queue_turn t v q = cond (t == 0) (wake v q) (insert v t q)

pub record Chip : Type 0 where
  pub queue : Queue
  pub total : ℕ

-- behind so many turns
abbrev pub chip_of : List ℕ → List ℕ → ℕ → ℕ → Chip
chip_of tasks values sum zero = record { queue = none; total = sum }
chip_of tasks values sum (suc i) =
    let g = chip_of tasks values sum i in
    let q = queue_turn (at tasks i) (at values i) g.queue in
    record { queue = q; total = mixed_of g.total q.task q.time }

unfoldable pub by_chip : List ℕ → List ℕ → ℕ → ℕ
by_chip tasks values sum = (chip_of tasks values sum (lesser (length tasks) (length values))).total

-- the same of the delay line d with the times u: task t is put in by its time; the first is taken off, where it is due
abbrev pub put_line : List ℕ → List ℕ → ℕ → ℕ → List ℕ
put_line d u t v = place (later u v) t d

abbrev pub put_time : List ℕ → ℕ → ℕ → List ℕ
put_time u t v = with_time u t v

abbrev pub wake_line : List ℕ → List ℕ → ℕ → List ℕ
wake_line d u clock = cond (due_in d u clock == 0) d (pop d)

abbrev pub wake_time : List ℕ → List ℕ → ℕ → List ℕ
wake_time d u clock = cond (due_in d u clock == 0) u (with_time u (due_in d u clock) 0)

abbrev pub line_turn : List ℕ → List ℕ → ℕ → ℕ → List ℕ
line_turn d u t v = cond (t == 0) (wake_line d u v) (put_line d u t v)

abbrev pub time_turn : List ℕ → List ℕ → ℕ → ℕ → List ℕ
time_turn d u t v = cond (t == 0) (wake_time d u v) (put_time u t v)

pub record Line : Type 0 where
  pub delayed : List ℕ
  pub until : List ℕ
  pub total : ℕ

-- behind so many turns
abbrev pub line_of : List ℕ → List ℕ → ℕ → ℕ → Line
line_of tasks values sum zero = record { delayed = replicate 32 0; until = replicate 32 0; total = sum }
line_of tasks values sum (suc i) =
    let g = line_of tasks values sum i in
    let d = line_turn g.delayed g.until (at tasks i) (at values i) in
    let u = time_turn g.delayed g.until (at tasks i) (at values i) in
    record { delayed = d; until = u; total = mixed_of g.total (at d 0) (time_in u (at d 0)) }

unfoldable pub by_line : List ℕ → List ℕ → ℕ → ℕ
by_line tasks values sum = (line_of tasks values sum (lesser (length tasks) (length values))).total
