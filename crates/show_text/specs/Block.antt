-- What the program show prints of a state, for a person: the block under a row of walk. Each of its lines begins with a
-- blank, as no row does; then comes a word, and numbers. 0 is nobody, and a line that lists nobody ends behind its word.
use Rattle.std.specs.Prelude.{ℕ, zero, suc, Bool, cond, List, [], ◌∷◌, ◌++◌, eqb, get_or}
use Prim.Native.String.{String}
use Rattle.rules.specs.Line.{at, one_if}
use Rattle.rules.specs.Machine.{Machine, task_count, object_count, declared, last_opened, way_held, active}
use Rattle.rules_exceptions.specs.Exceptions.{has}
use Rattle.queue_chip.specs.declared.Queue.{Queue}
use Rattle.queue_chip.specs.Queue.{in_use}
use Rattle.decimal.specs.Decimal.{decimal}
use Rattle.text.specs.Words.{bytes, blank, line_end}

-- a number behind a blank; a word, and a number behind it; two numbers with a slash between: a task, and what is said
-- of it
abbrev pub number : ℕ → List ℕ
number n = blank ∷ decimal n

abbrev pub named : String → ℕ → List ℕ
named word n = bytes word ++ number n

abbrev pub slash : ℕ
slash = 47

abbrev pub pair : ℕ → ℕ → List ℕ
pair t n = number t ++ (slash ∷ decimal n)

abbrev pub end : List ℕ
end = line_end ∷ []

-- what is said of each number below n, one behind another
unfoldable pub each : ℕ → (ℕ → List ℕ) → List ℕ
each zero f = []
each (suc n) f = each n f ++ f n

-- Whether the machine is started, and whether this answer shows the running task an exception: 1 or 0.
unfoldable pub flags_text : Bool → Bool → List ℕ
flags_text started exception = named " started" (one_if started) ++ named " exception" (one_if exception) ++ end

-- Every task that is created, with its base.
unfoldable pub task_text : Machine → ℕ → List ℕ
task_text m t = cond (eqb (at m.base t) 0) [] (pair t (at m.base t))

unfoldable pub tasks_text : Machine → List ℕ
tasks_text m = bytes " tasks" ++ each task_count (task_text m) ++ end

-- The ready line, the running task first and idle last: each task with its active priority.
unfoldable pub ready_list : Machine → List ℕ → List ℕ
ready_list m [] = []
ready_list m (t ∷ l) = pair t (active m t) ++ ready_list m l

unfoldable pub ready_text : Machine → List ℕ
ready_text m = bytes " ready" ++ ready_list m m.ready ++ end

-- The delay line, the soonest first: each task with the time until which it sleeps.
unfoldable pub delay_list : List (ℕ × ℕ) → List ℕ
delay_list [] = []
delay_list (e ∷ l) = pair e.1 e.0 ++ delay_list l

unfoldable pub delay_text : Machine → List ℕ
delay_text m = bytes " delay" ++ delay_list m.delay ++ end

-- The tasks with an exception that no answer has shown yet.
unfoldable pub owed_text : ℕ → ℕ → List ℕ
owed_text pending t = cond (has pending t) (number t) []

unfoldable pub pending_text : ℕ → List ℕ
pending_text pending = bytes " pending" ++ each task_count (owed_text pending) ++ end

-- The task that holds an object, 0 for nobody. (In a sound state at most one does; of more it is the last.)
unfoldable pub holder_below : ℕ → Machine → ℕ → ℕ
holder_below zero m o = 0
holder_below (suc n) m o = cond (eqb (last_opened m n) o) n (holder_below n m o)

abbrev pub holder : Machine → ℕ → ℕ
holder m o = holder_below task_count m o

-- the tasks of a line
unfoldable pub numbers_text : List ℕ → List ℕ
numbers_text [] = []
numbers_text (t ∷ l) = number t ++ numbers_text l

-- An object: its ceiling, who holds it and in which way (1 for a procedure or a function, 2 for an entry), and who
-- waits on it.
unfoldable pub object_line : ℕ → ℕ → ℕ → ℕ → List ℕ → List ℕ
object_line o top t way waiters =
    named " object" o ++ named " ceiling" top ++ named " holder" t ++ named " way" way
    ++ bytes " waiters" ++ numbers_text waiters ++ end

-- Every object that is declared.
unfoldable pub object_text : Machine → ℕ → List ℕ
object_text m o =
    cond (declared m o)
    (object_line o (at m.ceiling o) (holder m o) (way_held m (holder m o)) (get_or m.queue o []))
    []

unfoldable pub objects_text : Machine → List ℕ
objects_text m = each object_count (object_text m)

-- The chip's queue. A time and an age,
unfoldable pub entry_text : ℕ → ℕ → List ℕ
entry_text time age = named " time" time ++ named " age" age ++ end

-- of the task in the registers,
unfoldable pub registers_text : Queue → List ℕ
registers_text q = named " registers task" q.task ++ entry_text q.time q.age

-- and of each cell of the table that is in use, by task number.
unfoldable pub cell_text : Queue → ℕ → List ℕ
cell_text q t =
    cond (in_use (at q.ages t)) (named " table task" t ++ entry_text (at q.times t) (at q.ages t)) []

unfoldable pub table_text : Queue → List ℕ
table_text q = each task_count (cell_text q)

-- The block: the machine, its pending exceptions, the queue, and whether the answer above it shows an exception.
unfoldable pub block : Machine → ℕ → Queue → Bool → List ℕ
block m pending q exception =
    flags_text m.started exception ++ tasks_text m ++ ready_text m ++ delay_text m ++ pending_text pending
    ++ objects_text m ++ registers_text q ++ table_text q

-- The room that a block asks for with the row above it: no less than they ever need.
abbrev pub show_room : ℕ
show_room = 4096
