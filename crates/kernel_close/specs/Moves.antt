-- Whom the end of a body releases, and the ready line behind a close.
use Rattle.std.specs.Prelude.{ℕ, Bool, cond, List, set}
use Rattle.rules.specs.Line.{at}
use Rattle.kernel_ready.specs.Ready.{runner_in, popped, headed}

-- The task that the end of a body serves: who waits on the object, where it serves at all; 0 for nobody.
abbrev pub waits_in : List ℕ → ℕ → Bool → ℕ
waits_in waiter o serves = cond serves (at waiter o) 0

-- The line once its front has closed: it holds nothing, and stands at the head of its base.
abbrev pub closed_line : List ℕ → List ℕ → List ℕ → List ℕ → List ℕ
closed_line base ceiling held line =
    let r = runner_in line in
    headed base ceiling (set held r 0) (at base r) r (popped line)
