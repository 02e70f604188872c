-- The step and the question "Wakes left" on the whole state, as the rules say it: what the public contracts cite.
use Rattle.std.specs.Prelude.{ℕ, ◌≡◌, Bool, false, cond, ◌&&◌}
use Rattle.rules.specs.Machine.{Command}
use Rattle.rules_exceptions.specs.Exceptions.{next, answer, sound}
use Rattle.rules_exceptions.specs.Exceptions as X
use Rattle.kernel.specs.declared.Kernel.{Kernel}
use Rattle.kernel.specs.declared.Left.{Left}
use Rattle.kernel.specs.View.{tidy}
use Rattle.kernel.specs.View as K
use Rattle.kernel.specs.Public as P
use Rattle.kernel_state.specs.declared.State.{State}
use Rattle.kernel_state.specs.declared.Stepped.{Stepped}
use Rattle.kernel_state.specs.declared.Answer.{Answer}

-- Reading the state: the machine that the tables stand for, and what is pending. Writing it.
unfoldable pub view : State → X.State
view s = record { machine = K.view s.kernel; pending = s.pending }

unfoldable pub encode : X.State → State
encode s = record { kernel = K.encode s.machine; pending = s.pending }

-- A saved state is sound: its tables are tidy, and the machine that they stand for is sound, with what is pending.
unfoldable pub is_sound : State → Bool
is_sound s = tidy s.kernel && sound (view s)

-- A state by its parts: the tables, and what is pending. An answer by its numbers: code, running, released, and whether
-- an exception is shown.
abbrev pub both : Kernel → ℕ → State
both k p = record { kernel = k; pending = p }

abbrev pub answer_of : ℕ → ℕ → ℕ → Bool → Answer
answer_of n x t shown = record { code = n; running = record { 0 = x }; released = record { 0 = t }; exception = shown }

-- A state with an answer of the rules.
abbrev pub report : State → X.Answer → Stepped
report s a = record { next = s; answer = answer_of a.code a.running a.released a.exception }

-- A state and an answer are those of a step.
abbrev pub ends : State → Answer → Stepped → Type 0
ends s a r = (s ≡ r.next) × (a ≡ r.answer)

-- Shape: 1, 0, 0, and no exception.
abbrev pub shape : X.Answer
shape = record { code = 1; running = 0; released = 0; exception = false }

-- Read the state, take the rules' step, write the state. A state that is not sound comes back as it is.
unfoldable pub step_of : State → Command → Stepped
step_of s c = cond (is_sound s) (report (encode (next (view s) c)) (answer (view s) c)) (report s shape)

-- "Wakes left" of a task: the kernel's, of a sound state.
unfoldable pub left_of : State → ℕ → Left
left_of s t = cond (is_sound s) (P.left_of s.kernel t) (record { code = 1; left = 0 })
