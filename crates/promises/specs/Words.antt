-- The words of the promises, over the kernel's own tables and the answers of its step.
use Rattle.std.specs.Prelude.{ℕ, ◌+◌, ◌≤◌, ◌≡◌, ◌≢◌, Bool, ◌&&◌, List, [], ◌∷◌, eqb}
use Rattle.rules.specs.Line.{at, one_if}
use Rattle.rules.specs.Machine.{fresh}
use Rattle.kernel.specs.declared.Kernel.{Kernel}
use Rattle.kernel_checks.specs.declared.Command.{Command}
use Rattle.kernel.specs.declared.command.Answer.{Answer}
use Rattle.kernel.specs.View.{encode}
use Rattle.kernel.specs.Public.{stepped}

-- What Kernel::fresh answers: its contract is this equation. (What Kernel::step answers, `stepped`, and who runs,
-- `running_of`: kernel/specs/Public.)
unfoldable pub fresh_of : Kernel
fresh_of = encode fresh

-- Runs of the step: the state behind some commands, and the answers on the way.
unfoldable pub run_of : Kernel → List Command → Kernel
run_of k [] = k
run_of k (c ∷ cs) = run_of (stepped k c).next cs

unfoldable pub answers_of : Kernel → List Command → List Answer
answers_of k [] = []
answers_of k (c ∷ cs) = (stepped k c).answer ∷ answers_of (stepped k c).next cs

-- the states of a run, the first and the last among them: the moments
unfoldable pub moments_of : Kernel → List Command → List Kernel
moments_of k [] = k ∷ []
moments_of k (c ∷ cs) = k ∷ moments_of (stepped k c).next cs

-- an accepted Wake, op 5 and code 0; and how many of them a run has
unfoldable pub woke_by : Kernel → Command → Bool
woke_by k c = eqb c.op 5 && eqb (stepped k c).answer.code 0

unfoldable pub wakes_of : Kernel → List Command → ℕ
wakes_of k [] = 0
wakes_of k (c ∷ cs) = one_if (woke_by k c) + wakes_of (stepped k c).next cs

-- a Wake
abbrev pub a_wake : Command
a_wake = record { op = 5; a = 0; b = 0; value = 0 }

-- task t stands at index r of the delay line, and its time is at most the clock
pub record DueIn (k : Kernel) (t r : ℕ) : Type 0 where
  pub task : at k.delayed r ≡ t
  pub there : t ≢ 0
  pub due : at k.until t ≤ k.clock
