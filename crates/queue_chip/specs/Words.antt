-- The words in which the theorems are stated, beside those of Queue and Chip: the queue that a delay line is.
use Rattle.std.specs.Prelude.{ℕ, suc, ◌+◌, ◌≤◌, ◌<◌, ◌≡◌, ◌≢◌, List, [], ◌∷◌, eqb, set, replicate}
use Rattle.rules.specs.Line.{at, one_if}
use Rattle.rules.specs.Machine.{Machine, Command, task_count}
use Rattle.rules.specs.Run.{next}
use Rattle.rules.proofs.Words.{All}
use Rattle.queue_chip.specs.declared.Queue.{Queue}
use Rattle.queue_chip.specs.Queue.{queue, none, beside}
use Rattle.queue_chip.specs.Chip.{Chip, chip, with_delay}

-- A delay line of a sound machine: tasks 1..31, each once, times not falling. And that a task is not in a line.
abbrev pub Apart : ℕ → List (ℕ × ℕ) → Type 0
Apart t l = All (λ f. f.1 ≢ t) l

abbrev pub Lined : List (ℕ × ℕ) → Type 0
Lined [] = Unit {0}
Lined (e ∷ l) = (0 < e.1) × (e.1 < task_count) × Apart e.1 l × All (λ f. e.0 ≤ f.0) l × Lined l

-- how many entries of a line have the time n
abbrev pub equals : ℕ → List (ℕ × ℕ) → ℕ
equals n [] = 0
equals n (e ∷ l) = one_if (eqb n e.0) + equals n l

-- The table of some entries: each task's time; and its age, 1 and one more for each of that time behind it.
unfoldable pub times_of : List (ℕ × ℕ) → List ℕ
times_of [] = replicate task_count 0
times_of (e ∷ l) = set (times_of l) e.1 e.0

unfoldable pub ages_of : List (ℕ × ℕ) → List ℕ
ages_of [] = replicate task_count 0
ages_of (e ∷ l) = set (ages_of l) e.1 (suc (equals e.0 l))

-- The queue of a delay line: its first entry in the registers, the others in the table. One queue for each line.
unfoldable pub queued : List (ℕ × ℕ) → Queue
queued [] = none
queued (e ∷ l) = queue e.1 e.0 (suc (equals e.0 l)) (times_of l) (ages_of l)

-- THE RELATION between a queue and a delay line: the queue stands for the line.
abbrev pub StandsFor : Queue → List (ℕ × ℕ) → Type 0
StandsFor q l = q ≡ queued l

-- a task stands in the registers; in the table
abbrev pub InRegisters : Queue → ℕ → Type 0
InRegisters q t = q.task ≡ t

abbrev pub InTable : Queue → ℕ → Type 0
InTable q t = at q.ages t ≢ 0

-- The queue beside a machine, behind some commands: each moves the queue by the machine as it was before it.
unfoldable pub follows : Machine → List Command → Queue → Queue
follows m [] q = q
follows m (c ∷ cs) q = follows (next m c) cs (beside m c q)

-- the chip that is as a machine is
unfoldable pub chip_of : Machine → Chip
chip_of m = chip (with_delay m []) (queued m.delay)
