-- A step with its answer, runs of any commands, and the question "Wakes left": of a sound machine. (Where a state
-- comes in from outside, one that is not sound is answered 1, running 0, released 0 and the very state that came in.)
use Rattle.std.specs.Prelude.{ℕ, suc, ◌-◌, Bool, false, cond, not, ◌&&◌, ◌||◌, List, [], ◌∷◌, eqb, leb}
use Rattle.rules.specs.Line.{within}
use Rattle.rules.specs.Machine.{Machine, Command, task_count, created, running}
use Rattle.rules.specs.Table.{effect, carry, freed_by}
use Rattle.rules.specs.Refusals.{refusal}

abbrev pub accepts : Machine → Command → Bool
accepts m c = eqb (refusal m c) 0

-- The state after a command: its row carried out, or, if it is refused, the same state.
unfoldable pub next : Machine → Command → Machine
next m c = cond (accepts m c) (carry m (effect m c)) m

-- The released task, 0 for nobody.
unfoldable pub released : Machine → Command → ℕ
released m c = cond (accepts m c) (freed_by (effect m c) m) 0

-- The answer: the number of the refusal, 0 for none; the running task after the step; the released task.
pub record Answer : Type 0 where
  pub code : ℕ
  pub running : ℕ
  pub released : ℕ

unfoldable pub answer : Machine → Command → Answer
answer m c = record { code = refusal m c; running = running (next m c); released = released m c }

-- A run: the state behind some commands, and the answers on the way.
unfoldable pub run : Machine → List Command → Machine
run m [] = m
run m (c ∷ cs) = run (next m c) cs

unfoldable pub answers : Machine → List Command → List Answer
answers m [] = []
answers m (c ∷ cs) = answer m c ∷ answers (next m c) cs

-- "Wakes left": if the task is delayed and due, one more than the count of entries ahead of it in the delay line;
-- otherwise 0.
abbrev pub is_due : ℕ → ℕ → List (ℕ × ℕ) → Bool
is_due now t [] = false
is_due now t (e ∷ l) = eqb e.1 t && leb e.0 now || is_due now t l

abbrev pub ahead : ℕ → List (ℕ × ℕ) → ℕ
ahead t [] = 0
ahead t (e ∷ l) = cond (eqb e.1 t) 0 (suc (ahead t l))

unfoldable pub wakes_left : Machine → ℕ → ℕ
wakes_left m t = cond (is_due m.clock t m.delay) (suc (ahead t m.delay)) 0

-- The question has the checks 4, over a task 1..31, and 6, the task asked about not set up. A refusal answers its
-- number and 0.
pub record Left : Type 0 where
  pub code : ℕ
  pub left : ℕ

unfoldable pub question : Machine → ℕ → Left
question m t =
    cond (not (within 1 (task_count - 1) t)) (record { code = 4; left = 0 })
    (cond (not (created m t)) (record { code = 6; left = 0 })
    (record { code = 0; left = wakes_left m t }))
