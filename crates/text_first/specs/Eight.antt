-- Eight decimals, by places in a line.
use Rattle.std.specs.Prelude.{ℕ, ◌≤◌, List, ◌≡◌, length, drop}
use Rattle.text_first.specs.declared.Eight.{Eight}
use Rattle.text.specs.FirstLine.{Decimals}

-- Eight decimals as the code has them: the place behind them for the line behind them.
pub record ReadsEight (line : List ℕ) (r : Eight) (p : Decimals) : Type 0 where
  pub valid : r.valid ≡ p.valid
  pub values : r.values ≡ p.values
  pub left : drop r.next line ≡ p.left
  pub within : r.next ≤ length line
