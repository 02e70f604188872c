-- What is promised of the chip's own delay queue, each in plain words and then in antt, over every list of commands: unknown ops, bad operands, refused
-- commands and all. Beside each: which wrong queues it rules out, and which it leaves to another. `M.fresh` and `R.run` are the rules' machine and its runs,
-- with a delay line; `fresh` and `run` the chip's, with the queue in its place. Assumes nothing.
use Prim.Native.Nat.{ℕ, ◌≤◌, ◌<◌}
use native.Mathlib.Omega.{arith}
use mathlib.Core.Path.{◌≡◌, refl, sym, ap, subst, ◌∙◌}
use mathlib.Core.Logic.{◌≢◌, ◌↔◌, ◌⊎◌}
use mathlib.Core.Bool.{Bool, true, false, cond, not, ◌&&◌}
use mathlib.Core.List.{List, [], ◌∷◌}
use lib.Dec.{eqb, leb}
use lib.ListN.{length}
use Rattle.rules.specs.Line.{at, count, front, behind_front, empty, by_time}
use Rattle.rules.specs.Machine.{Machine, Command, task_count, tasks, runner}
use Rattle.rules.specs.Machine as M
use Rattle.rules.specs.Sound.{sound}
use Rattle.rules.specs.Run.{accepts, released, wakes_left}
use Rattle.rules.specs.Run as R
use Rattle.rules.proofs.Words.{cmd}
use Rattle.rules.proofs.Sounds.{Sound, tests_sound}
use Rattle.rules.proofs.Step.{run_sound, fresh_sound}
use Rattle.queue_chip.specs.declared.Queue.{Queue}
use Rattle.queue_chip.specs.Queue.{none, insert, before, searched, taken, woken, wake, left, delayed, follow, beside, read}
use Rattle.queue_chip.specs.Chip.{Chip, with_delay, fresh, next, answer, question, run, answers}
use Rattle.queue_chip.specs.Words.{Apart, Lined, queued, StandsFor, InRegisters, InTable, follows, chip_of}
use Rattle.queue_chip.proofs.Search.{no_worse, below, nobody}
use Rattle.queue_chip.proofs.Laws.{by_time_lined, insert_is, taken_is, wake_is, delayed_not, read_is, stands_once, empty_exactly}
use Rattle.queue_chip.proofs.Laws.{registers_first, some_age, idle_free, free_cells, ages_few, ties_settled}
use Rattle.queue_chip.proofs.Runs.{lined_short, delay_lined, delay_short, runner_apart, beside_is, follows_is, wake_releases, left_same}
use Rattle.queue_chip.proofs.Chips.{beside_same, answer_is, question_is, run_is, answers_are, fresh_is}

-- ## The promise
-- From the fresh machine the chip gives every command the answer that the machine with a delay line gives it: refusal, running task and released task. So
-- it is of every delay and every Wake.
-- Rules out: whatever a wrong queue would show in an answer: a Wake that releases another task, or nobody; a past delay that is queued.
-- Leaves: what is asked beside the commands (next), and which answers those are (the rules).
pub answers_alike : (cs : List Command) → answers fresh cs ≡ R.answers M.fresh cs
answers_alike cs = rw fresh_is (answers_are cs M.fresh fresh_sound)

-- And behind any commands every "Wakes left" is the machine's, refused or not.
-- Rules out: a count that leaves out the registers, or the ties. Leaves: nothing of the question.
pub lefts_alike : (cs : List Command) (t : ℕ) → question (run fresh cs) t ≡ R.question (R.run M.fresh cs) t
lefts_alike cs t = rw (fresh_is, run_is cs M.fresh fresh_sound) (question_is (R.run M.fresh cs) (run_sound cs M.fresh fresh_sound) t)

-- Both hold from every sound state, so from a saved one too: `chip_of` is the chip that is as a machine is.
pub answers_alike_sound : (m : Machine) (cs : List Command) → sound m ≡ true → answers (chip_of m) cs ≡ R.answers m cs
answers_alike_sound m cs e = answers_are cs m ((tests_sound m).sure e)

pub lefts_alike_sound : (m : Machine) (cs : List Command) (t : ℕ) → sound m ≡ true → question (run (chip_of m) cs) t ≡ R.question (R.run m cs) t
lefts_alike_sound m cs t e = let s = (tests_sound m).sure e in rw (run_is cs m s) (question_is (R.run m cs) (run_sound cs m s) t)

-- The chip keeps no delay line beside its queue: behind every command it is empty.
-- Rules out: a second model that answers from a hidden copy of the first. Leaves: what the queue itself keeps (below).
pub no_line : (k : Chip) (c : Command) → (next k c).machine.delay ≡ []
unfolding next
no_line k c = refl

-- Nor does the queue's own step look at one: beside a machine it does the same, whatever delay line that machine has.
-- Rules out: a queue that is read off the machine's line. Leaves: what it takes of the machine: whether it refuses, its clock and its runner.
pub no_line_seen : (m : Machine) (l : List (ℕ × ℕ)) (c : Command) (q : Queue) → beside (with_delay m l) c q ≡ beside m c q
no_line_seen m l c q = beside_same m l c q

-- All else of the chip is the machine's.
-- Rules out: a queue that disturbs the ready line, an object or the clock. Leaves: the queue.
pub machine_alike : (cs : List Command) → (run fresh cs).machine ≡ with_delay (R.run M.fresh cs) []
unfolding chip_of
machine_alike cs = rw fresh_is (ap (λ (k : Chip). k.machine) (run_is cs M.fresh fresh_sound))

-- ## The queue of a run
module _ (cs : List Command) where
  abbrev behind : Machine
  behind = R.run M.fresh cs

  behind_sound : Sound behind
  behind_sound = run_sound cs M.fresh fresh_sound

  line : Lined behind.delay
  line = delay_lined behind behind_sound

  reached : run fresh cs ≡ chip_of behind
  reached = rw fresh_is (run_is cs M.fresh fresh_sound)

  -- The relation between queue and delay line holds behind every run.
  pub queue_stands : StandsFor (run fresh cs).queue (R.run M.fresh cs).delay
  unfolding chip_of
  queue_stands = ap (λ (k : Chip). k.queue) reached

  of_queue : (P : Queue → Type 0) → P (queued behind.delay) → P (run fresh cs).queue
  of_queue P p = subst P (sym queue_stands) p

  -- The registers are empty exactly where nobody is delayed; and then the table is empty too.
  -- Rules out: registers that stay empty while someone sleeps in the table; a task that is kept there when all have left. Leaves: who stands in them.
  pub registers_empty : ((run fresh cs).queue.task ≡ 0) ↔ ((R.run M.fresh cs).delay ≡ [])
  registers_empty = of_queue (λ q. (q.task ≡ 0) ↔ (behind.delay ≡ [])) (empty_exactly behind.delay line)

  pub empty_is_none : (run fresh cs).queue.task ≡ 0 → (run fresh cs).queue ≡ none
  unfolding queued
  empty_is_none z = queue_stands ∙ ap queued (registers_empty.0 z)

  -- The registers hold the soonest: whoever stands in the table has no sooner time, and of the same time is younger. Who stands in them has an age.
  -- Rules out: a later time in the registers, or the younger of a tie. Leaves: the order in the table (read_off).
  pub registers_soonest : (u : ℕ) → let q = (run fresh cs).queue in InTable q u
      → (q.time ≤ at q.times u) × (at q.times u ≡ q.time → at q.ages u < q.age)
  registers_soonest u =
      of_queue (λ q. InTable q u → (q.time ≤ at q.times u) × (at q.times u ≡ q.time → at q.ages u < q.age))
      (registers_first u behind.delay line)

  pub registers_aged : let q = (run fresh cs).queue in q.task ≢ 0 → 1 ≤ q.age
  registers_aged = of_queue (λ q. q.task ≢ 0 → 1 ≤ q.age) (some_age behind.delay)

  -- A task is delayed exactly where it stands in the registers or in the table, and it never stands in both.
  -- Rules out: a task that is lost on the way between them, or left in the table when it has come into the registers. Leaves: in which order they wake (next).
  pub one_place : (t : ℕ) → t ≢ 0 → let q = (run fresh cs).queue in
      ((1 ≤ count t (tasks (R.run M.fresh cs).delay)) ↔ (InRegisters q t ⊎ InTable q t)) × (InRegisters q t → InTable q t → ⊥)
  one_place t n =
      of_queue (λ q. ((1 ≤ count t (tasks behind.delay)) ↔ (InRegisters q t ⊎ InTable q t)) × (InRegisters q t → InTable q t → ⊥))
      (stands_once t behind.delay n line)

  -- Read off as it will wake, the queue is the delay line: each task with its time, in the line's order.
  -- Rules out: a time that is kept of another task, a tie in the wrong order, an entry that is lost. Leaves: nothing of what is delayed.
  pub read_off : read task_count (run fresh cs).queue ≡ (R.run M.fresh cs).delay
  read_off = of_queue (λ q. read task_count q ≡ behind.delay) (read_is task_count behind.delay line (omega (arith, delay_short behind behind_sound)))

  -- Every tie is settled: of two tasks in the table one stands before the other.
  -- Rules out: two of the same time with the same age. Leaves: which one (read_off above).
  pub no_ties : (t u : ℕ) → let q = (run fresh cs).queue in t ≢ u → InTable q t → InTable q u
      → (before q.times q.ages t u ≡ true) ⊎ (before q.times q.ages u t ≡ true)
  no_ties t u =
      of_queue
      (λ q. t ≢ u → InTable q t → InTable q u → (before q.times q.ages t u ≡ true) ⊎ (before q.times q.ages u t ≡ true))
      (ties_settled t u behind.delay line)

  -- A cell that is not in use is 0 throughout, idle's is never in use, and no age passes 31.
  -- Rules out: what a wake leaves behind in a cell; an age that a byte cannot hold. Leaves: the cells in use.
  pub cells_free : (t : ℕ) → let q = (run fresh cs).queue in at q.ages t ≡ 0 → at q.times t ≡ 0
  cells_free t = of_queue (λ q. at q.ages t ≡ 0 → at q.times t ≡ 0) (free_cells t behind.delay line)

  pub idle_cell_free : at (run fresh cs).queue.ages 0 ≢ 0 → ⊥
  idle_cell_free = of_queue (λ q. at q.ages 0 ≢ 0 → ⊥) (idle_free behind.delay line)

  pub ages_fit : (t : ℕ) → let q = (run fresh cs).queue in (q.age ≤ 31) × (at q.ages t ≤ 31)
  ages_fit t =
      of_queue (λ q. (q.age ≤ 31) × (at q.ages t ≤ 31))
      (let w = ages_few t behind.delay line in let s = delay_short behind behind_sound in (omega (arith, w.0), omega (arith, w.1)))

  -- A Wake that is accepted releases the task of the registers, where its time is at most the clock, and nobody otherwise.
  -- Rules out: a chip whose answer is not its queue's. Leaves: who stands in the registers (above).
  pub wake_answers : (a b v : ℕ) → let k = run fresh cs in let c = cmd 5 a b v in
      (answer k c).released ≡ cond (eqb (answer k c).code 0) (woken k.machine.clock k.queue) 0
  unfolding R.answer chip_of
  wake_answers a b v =
      subst
      (λ (k : Chip). (answer k (cmd 5 a b v)).released ≡ cond (eqb (answer k (cmd 5 a b v)).code 0) (woken k.machine.clock k.queue) 0)
      (sym reached)
      (rw (answer_is behind behind_sound (cmd 5 a b v)) (wake_releases behind behind_sound a b v))

-- ## The search by itself
-- Of any table: if a task stands in it, the one that the search finds stands in it too, its time is no later, and of the same time its age is no less.
-- Rules out: a search that stops before task 31, one that finds a free cell, a later time, or the younger of a tie. Leaves: which of two cells that are equal
-- in both, of which a run's queue has none (no-ties).
pub search_finds : (times ages : List ℕ) (u : ℕ) → u < task_count → at ages u ≢ 0 → let s = searched times ages in
    (at ages s ≢ 0) × (at times s ≤ at times u) × (at times u ≡ at times s → at ages u ≤ at ages s)
unfolding searched
search_finds times ages u h = no_worse times ages _ u (omega arith)

-- It finds a task, 0 where nobody stands in the table.
-- Rules out: a search that makes someone up. Leaves: who is found where someone is there (above).
pub search_in_range : (times ages : List ℕ) → searched times ages < task_count
unfolding searched
search_in_range times ages = below times ages task_count _ (omega arith) (omega arith)

pub search_finds_nobody : (times ages : List ℕ) → ((u : ℕ) → u < task_count → at ages u ≡ 0) → searched times ages ≡ 0
unfolding searched
search_finds_nobody times ages f = nobody times ages _ (λ u h. f u (omega arith))

-- ## The relation, kept
-- A queue that stands for a delay line (tasks 1..31, each once, times rising) stands for the line behind each operation: behind an insertion, of a task that
-- is not in it, for the line with that task placed by its time, behind equal times; behind a search for the line without its first entry; behind a Wake for
-- the line without its first entry, if that is due.
-- Rules out: a tie that puts the younger into the registers, an age that is not counted up, a time or a cell that stays where the task went.
-- Leaves: which commands insert and wake (next).
pub insertion_keeps : (q : Queue) (l : List (ℕ × ℕ)) (n t : ℕ) → Lined l → Apart t l → StandsFor q l → StandsFor (insert n t q) (by_time (n, t) l)
insertion_keeps q l n t w a h = ap (insert n t) h ∙ insert_is n t l w a (omega (arith, lined_short l w))

pub search_keeps : (q : Queue) (e : ℕ × ℕ) (l : List (ℕ × ℕ)) → Lined (e ∷ l) → StandsFor q (e ∷ l) → StandsFor (taken q) l
search_keeps q e l w h = ap taken h ∙ taken_is e l w

pub wake_keeps : (q : Queue) (l : List (ℕ × ℕ)) (now : ℕ) → Lined l → StandsFor q l
    → StandsFor (wake now q) (cond (not (empty l) && leb (front (0, 0) l).0 now) (behind_front l) l)
wake_keeps q l now w h = ap (wake now) h ∙ wake_is now l w

-- The line behind an insertion, of a task 1..31 that is not in it, is such a line again. (Without its first entry it is one at once: the last part of
-- `Lined`.) So the three follow one another in any order.
-- Rules out: a condition that the first insertion breaks. Leaves: nothing of it.
pub insertion_lined : (l : List (ℕ × ℕ)) (n t : ℕ) → 0 < t → t < task_count → Lined l → Apart t l → Lined (by_time (n, t) l)
insertion_lined l n t = by_time_lined n t l

-- The delay line of every sound machine is such a line, of at most 31 entries, and its runner is not in it.
-- Rules out: conditions that no machine meets. Leaves: nothing of them.
pub lines_are_such : (m : Machine) → sound m ≡ true → Lined m.delay × (length m.delay ≤ 31) × Apart (runner m) m.delay
lines_are_such m e = let s = (tests_sound m).sure e in (delay_lined m s, omega (arith, delay_short m s), runner_apart m s)

-- ## The queue beside a machine, as a caller is to run it
module _ (m : Machine) (e : sound m ≡ true) (q : Queue) (h : StandsFor q m.delay) where
  -- Every command keeps the relation, accepted or refused; and so does every run.
  -- Rules out: a queue that follows a refused command, or sleeps through a delay. Leaves: where it begins: at the fresh machine with `none`.
  pub command_keeps : (c : Command) → StandsFor (beside m c q) (R.next m c).delay
  command_keeps c = ap (beside m c) h ∙ beside_is m ((tests_sound m).sure e) c

  pub run_keeps : (cs : List Command) → StandsFor (follows m cs q) (R.run m cs).delay
  run_keeps cs = ap (follows m cs) h ∙ follows_is cs m ((tests_sound m).sure e)

  -- An accepted Wake releases whom the queue says, and "Wakes left" is the queue's.
  -- Rules out: a queue whose own answers are not the machine's. Leaves: nothing of both.
  pub wake_is_queues : (a b v : ℕ) → released m (cmd 5 a b v) ≡ cond (accepts m (cmd 5 a b v)) (woken m.clock q) 0
  wake_is_queues a b v = rw h (wake_releases m ((tests_sound m).sure e) a b v)

  pub left_is_queues : (t : ℕ) → wakes_left m t ≡ left m.clock t q
  left_is_queues t = rw h (sym (left_same m ((tests_sound m).sure e) t))

pub none_stands : StandsFor none (M.fresh).delay
unfolding queued
none_stands = refl

-- From the fresh machine the queue beside it is the chip's, behind every run.
-- Rules out: two queues, one beside a machine and one in the second model. Leaves: nothing.
pub beside_fresh : (cs : List Command) → follows M.fresh cs none ≡ (run fresh cs).queue
beside_fresh cs = ap (follows M.fresh cs) none_stands ∙ follows_is cs M.fresh fresh_sound ∙ sym (queue_stands cs)

-- A delay whose time is not above the clock queues nobody, whatever machine and queue hold.
-- Rules out: the fault that document 01 names in document 000: a past delay in the queue, ahead of tasks that are due. Leaves: the delays above the clock.
pub past_delay_queues_nobody : (m : Machine) (a b n : ℕ) (q : Queue) → n ≤ m.clock → beside m (cmd 4 a b n) q ≡ q
unfolding beside follow
past_delay_queues_nobody m a b n q h = go (accepts m (cmd 4 a b n))
  where
    go : (x : Bool) → cond x (delayed m.clock n (runner m) q) q ≡ q
    go true = delayed_not m.clock n (runner m) q h
    go false = refl
