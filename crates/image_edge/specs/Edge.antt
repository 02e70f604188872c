-- What goes out to C: what a call leaves in what it was lent, and two answers in one number.
use Rattle.std.specs.Prelude.{ℕ, ◌+◌, ◌*◌, Bool, cond, List, eqb}
use Rattle.rules.specs.Machine.{Command}
use Rattle.kernel.specs.declared.Kernel.{Kernel}
use Rattle.kernel.specs.declared.command.Answer.{Answer}
use Rattle.kernel_state.specs.declared.Answer as whole
use Rattle.kernel_state.specs.Public.{both}
use Rattle.generator.specs.declared.Drawn.{Drawn}
use Rattle.image_form.specs.Layout.{laid}
use Rattle.image_layout.specs.Settled.{settled_in}
use Rattle.image_calls.specs.Calls.{packed, packed_drawn}

-- An answer of the kernel's step, with whether it shows an exception.
abbrev pub shown : Answer → Bool → whole.Answer
shown a x = record { code = a.code; running = a.running; released = a.released; exception = x }

-- In one number, as it settles the exceptions that the bytes hold.
abbrev pub told_in : List ℕ → Command → Answer → ℕ
told_in s c a = packed (shown a (settled_in s c a).exception)

-- The image: the tables laid out in the bytes, with what is pending then, where the answer is no refusal.
abbrev pub image_left : List ℕ → Kernel → Command → Answer → List ℕ
image_left s k c a = cond (eqb a.code 0) (laid s (both k (settled_in s c a).pending)) s

-- The seed: that of a draw that is made. (The value that is left: image_calls/specs/Calls.)
abbrev pub seed_left : Drawn → ℕ → ℕ
seed_left d seed = cond (eqb d.code 0) d.seed seed

-- A draw with its step in one number: the draw's answer + 4294967296 * the step's, which is 0 where there is none.
abbrev pub packed_both : Drawn → ℕ → ℕ
packed_both d n = packed_drawn d + 4294967296 * cond (eqb d.code 0) n 0
