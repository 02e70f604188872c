-- Where each task stands, as marks in a table: the marks behind a line.
use Rattle.std.specs.Prelude.{ℕ, Bool, cond, List, [], ◌∷◌, eqb, set}
use Rattle.rules.specs.Line.{at}

-- A task's mark, where the task is met once more: the mark of the line, or 9 where it stood somewhere before.
abbrev pub met : ℕ → ℕ → ℕ
met mark seen = cond (eqb seen 0) mark 9

-- The tasks of a line up to the first entry at which the test stops, marked one after the other. 0 is no task and stays
-- unmarked.
unfoldable pub marks : (ℕ → Bool) → ℕ → List ℕ → List ℕ → List ℕ
marks stop mark [] seen = seen
marks stop mark (x ∷ l) seen = cond (stop x) seen
    (marks stop mark l (set seen x (cond (eqb x 0) 0 (met mark (at seen x)))))
