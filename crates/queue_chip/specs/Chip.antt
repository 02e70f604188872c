-- The second model: a machine without a delay line, and the chip's queue in its place.
use Rattle.std.specs.Prelude.{ℕ, ◌-◌, cond, not, List, [], ◌∷◌, eqb}
use Rattle.rules.specs.Line.{within}
use Rattle.rules.specs.Machine.{Machine, Command, task_count, created}
use Rattle.rules.specs.Machine as M
use Rattle.rules.specs.Table.{with_lines}
use Rattle.rules.specs.Run.{Answer, Left}
use Rattle.rules.specs.Run as R
use Rattle.queue_chip.specs.declared.Queue.{Queue}
use Rattle.queue_chip.specs.Queue.{none, beside, left}

abbrev pub with_delay : Machine → List (ℕ × ℕ) → Machine
with_delay m l = with_lines m m.ready l m.queue

pub record Chip : Type 0 where
  pub machine : Machine  -- all but the delay line, which is empty and stays so
  pub queue : Queue

abbrev pub chip : Machine → Queue → Chip
chip m q = record { machine = m; queue = q }

abbrev pub fresh : Chip
fresh = chip M.fresh none

-- What the rules are shown of the queue: the registers, as a delay line of at most one entry. They look at no more of a
-- line than its first entry, but for the line that they leave, which is dropped here.
abbrev pub face : Chip → Machine
face k = with_delay k.machine (cond (eqb k.queue.task 0) [] ((k.queue.time, k.queue.task) ∷ []))

-- The chip after a command: the rules' step of all but the delay line; and the queue's own.
unfoldable pub next : Chip → Command → Chip
next k c = chip (with_delay (R.next (face k) c) []) (beside (face k) c k.queue)

unfoldable pub answer : Chip → Command → Answer
answer k c = R.answer (face k) c

-- "Wakes left": the rules' checks 4 and 6, and then the queue's count.
unfoldable pub question : Chip → ℕ → Left
question k t =
    cond (not (within 1 (task_count - 1) t)) (record { code = 4; left = 0 })
    (cond (not (created k.machine t)) (record { code = 6; left = 0 })
    (record { code = 0; left = left k.machine.clock t k.queue }))

unfoldable pub run : Chip → List Command → Chip
run k [] = k
run k (c ∷ cs) = run (next k c) cs

unfoldable pub answers : Chip → List Command → List Answer
answers k [] = []
answers k (c ∷ cs) = answer k c ∷ answers (next k c) cs
