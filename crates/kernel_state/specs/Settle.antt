-- What an answer of the kernel's step does to the pending exceptions, of any numbers whatever: the code's own. Of a sound
-- state it is the rules' (proofs/Steps: `settles`).
use Rattle.std.specs.Prelude.{ℕ, false, cond, eqb, ltb}
use Rattle.rules.specs.declared.Whose.{Whose}
use Rattle.rules_exceptions.specs.Exceptions.{has, raised, cleared, task_of}
use Rattle.kernel.specs.declared.command.Answer.{Answer}
use Rattle.kernel_state.specs.declared.Settled.{Settled}

-- set for task t; what is no task is nobody
abbrev pub set_for : ℕ → ℕ → ℕ
set_for p t = cond (ltb t 32) (raised p t) p

abbrev pub settled : ℕ → Whose → ℕ → Answer → Settled
settled p w closer a =
    let told = set_for p (task_of w closer a.released.0) in
    cond (eqb a.code 0)
    (record { pending = cleared told a.running.0; exception = has told a.running.0 })
    (record { pending = p; exception = false })
