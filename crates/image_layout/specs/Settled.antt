-- What an answer of the kernel's step, to a command, does to the pending exceptions that bytes hold: the task that ran
-- before it is byte 64. Bytes of another length hold none.
use Rattle.std.specs.Prelude.{ℕ, false, cond, List, eqb, length, get_or}
use Rattle.rules.specs.Machine.{Command}
use Rattle.rules.specs.Kinds.{kind}
use Rattle.rules_exceptions.specs.Exceptions.{whose_of}
use Rattle.kernel.specs.declared.command.Answer.{Answer}
use Rattle.kernel_state.specs.declared.Settled.{Settled}
use Rattle.kernel_state.specs.Settle.{settled}
use Rattle.image_form.specs.Layout.{image_bytes, pending_of}

unfoldable pub settled_in : List ℕ → Command → Answer → Settled
settled_in s c a =
    cond (eqb (length s) image_bytes) (settled (pending_of s) (whose_of (kind c)) (get_or s 64 0) a)
    (record { pending = 0; exception = false })
