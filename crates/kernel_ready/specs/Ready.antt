-- The ready line in its table of 32 places, whose free places, at the end, are 0: who is in front, and where a task
-- goes. All that stands above goes by these names.
use Rattle.std.specs.Prelude.{ℕ, Bool, cond, ◌||◌, List, [], ◌∷◌, eqb, leb, ltb}
use Rattle.rules.specs.Line.{at}
use Rattle.kernel_line.specs.Tables.{place, pop, level, more}
use Rattle.kernel_line.specs.declared.TaskID.{TaskID}

-- The ready line as the rules have it: the entries before the first free place, and idle behind them.
abbrev pub with_idle : List ℕ → List ℕ
with_idle [] = 0 ∷ []
with_idle (x ∷ l) = cond (eqb x 0) (0 ∷ []) (x ∷ with_idle l)

-- Who is in front: 0 for idle.
unfoldable pub runner_in : List ℕ → ℕ
runner_in line = at line 0

-- Who is shown as running: the front, 0 before Start.
abbrev pub running_in : Bool → List ℕ → ℕ
running_in started line = cond started (runner_in line) 0

-- The line without its front.
unfoldable pub popped : List ℕ → List ℕ
popped line = pop line

-- a place for a priority p: before the first with a lower active priority
abbrev pub lower : List ℕ → List ℕ → List ℕ → ℕ → ℕ → Bool
lower base ceiling held p x = leb 32 x || ltb (level base ceiling held x) p

-- A task at the tail of p, and at the head of p, by the active priorities that base, ceiling and held give. The head of
-- p is the tail of the priority above.
unfoldable pub tailed : List ℕ → List ℕ → List ℕ → ℕ → ℕ → List ℕ → List ℕ
tailed base ceiling held p t line = place (lower base ceiling held p) t line

unfoldable pub headed : List ℕ → List ℕ → List ℕ → ℕ → ℕ → List ℕ → List ℕ
headed base ceiling held p t line = tailed base ceiling held (more p) t line

-- A task at the tail of its base.
abbrev pub to_tail : List ℕ → List ℕ → List ℕ → ℕ → List ℕ → List ℕ
to_tail base ceiling held t line = tailed base ceiling held (at base t) t line

-- The line once a task is released: it stands at the tail of its base. 0 is nobody.
abbrev pub released_line : List ℕ → List ℕ → List ℕ → ℕ → List ℕ → List ℕ
released_line base ceiling held t line = cond (eqb t 0) line (to_tail base ceiling held t line)

-- A task's number as the code hands it back.
abbrev pub task : ℕ → TaskID
task t = record { 0 = t }
