-- Places in a line, for what is left of it.
use Rattle.std.specs.Prelude.{ℕ, ◌+◌, ◌≤◌, List, ◌≡◌, length, drop}
use Rattle.text_word.specs.declared.Operand.{Operand}
use Rattle.text.specs.Words.{before}
use Rattle.text.specs.Commands.{Part}

-- the first place of `stop` from a place on, or the end
abbrev pub place_of : ℕ → List ℕ → ℕ → ℕ
place_of stop s at = at + length (before stop (drop at s))

-- A part as the code has it: the place behind it for the line behind it.
pub record Reads (line : List ℕ) (r : Operand) (p : Part) : Type 0 where
  pub valid : r.valid ≡ p.valid
  pub value : r.value ≡ p.value
  pub left : drop r.next line ≡ p.left
  pub within : r.next ≤ length line
