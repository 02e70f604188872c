-- The step and the question "Wakes left" on tables, as the rules say it: what the public contracts cite.
use Rattle.std.specs.Prelude.{ℕ, ◌≡◌, Bool, cond, ◌&&◌}
use Rattle.rules.specs.Machine.{Command}
use Rattle.rules.specs.Run.{next, answer, question}
use Rattle.rules.specs.Run as R
use Rattle.rules.specs.Sound.{sound}
use Rattle.kernel.specs.declared.Kernel.{Kernel}
use Rattle.kernel.specs.declared.Stepped.{Stepped}
use Rattle.kernel.specs.declared.Left.{Left}
use Rattle.kernel.specs.declared.command.Answer.{Answer}
use Rattle.kernel_ready.specs.Ready.{running_in}
use Rattle.kernel_checks.specs.declared.Command as given
pub use Rattle.kernel_checks.specs.Shown.{to_rules}
use Rattle.kernel.specs.View.{view, encode, tidy}

-- A saved state is sound: its tables are tidy, and the machine that they stand for is sound.
unfoldable pub is_sound : Kernel → Bool
is_sound k = tidy k && sound (view k)

-- An answer by its numbers: code, running, released.
abbrev pub answer_of : ℕ → ℕ → ℕ → Answer
answer_of n x t = record { code = n; running = record { 0 = x }; released = record { 0 = t } }

-- A state with an answer of the rules.
abbrev pub report : Kernel → R.Answer → Stepped
report k a = record { next = k; answer = answer_of a.code a.running a.released }

-- A state and an answer are those of a step.
abbrev pub Ends : Kernel → Answer → Stepped → Type 0
Ends k a s = (k ≡ s.next) × (a ≡ s.answer)

-- Shape: 1, 0, 0.
abbrev pub shape : R.Answer
shape = record { code = 1; running = 0; released = 0 }

-- Read the tables, take the rules' step, write the tables. A state that is not sound comes back as it is.
unfoldable pub step_of : Kernel → Command → Stepped
step_of k c = cond (is_sound k) (report (encode (next (view k) c)) (answer (view k) c)) (report k shape)

-- The same of a command in the program's four numbers.
abbrev pub stepped : Kernel → given.Command → Stepped
stepped k c = step_of k (to_rules c)

-- The running task as the tables tell it: 0 before Start.
abbrev pub running_of : Kernel → ℕ
running_of k = running_in k.started k.ready

-- The answer to "Wakes left" of a task.
abbrev pub counted : R.Left → Left
counted a = record { code = a.code; left = a.left }

unfoldable pub left_of : Kernel → ℕ → Left
left_of k t = counted (cond (is_sound k) (question (view k) t) (record { code = 1; left = 0 }))
