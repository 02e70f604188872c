-- The words in which the theorems are stated, beside those of Show.
use Rattle.std.specs.Prelude.{ℕ, suc, Bool, false, cond, List, [], ◌∷◌, ◌++◌, eqb, length}
use Rattle.rules.specs.Machine.{Command}
use Rattle.rules_exceptions.specs.Exceptions.{fresh}
use Rattle.kernel_state.specs.Public.{encode}
use Rattle.queue_chip.specs.Queue.{none}
use Rattle.text.specs.Words.{blank, line_end}
use Rattle.text.specs.Lines.{lines}
use Rattle.text.specs.Commands.{command_of}
use Rattle.session.specs.CarriedOut.{asked}
use Rattle.show_text.specs.Show.{line_text, state_after, queue_after}

-- A line that begins with a blank.
unfoldable pub indented : List ℕ → Bool
indented [] = false
indented (b ∷ l) = eqb b blank

-- Of some lines those that do not, one behind another, each with its line end.
unfoldable pub unindented_of : List (List ℕ) → List ℕ
unindented_of [] = []
unindented_of (l ∷ ls) = cond (indented l) [] (l ++ (line_end ∷ [])) ++ unindented_of ls

-- A text without its lines that begin with a blank.
unfoldable pub unindented : List ℕ → List ℕ
unindented text = unindented_of (lines text)

-- The commands that lines say. A line that is refused with 14 says none.
unfoldable pub commands : List (List ℕ) → List Command
commands [] = []
commands (l ∷ ls) = cond (eqb (command_of l).code 0) (asked (command_of l) ∷ []) [] ++ commands ls

-- What is printed for the line l, behind the lines ls: from the fresh machine on.
abbrev pub entry : List (List ℕ) → List ℕ → List ℕ
entry ls l =
    line_text (state_after (encode fresh) ls) (queue_after (encode fresh) none ls) (suc (length ls)) (command_of l)
