-- `text_command::number_among` meets its contract. The invariant: the word's number is its number among those from the place on, counted from n. Assumes
-- nothing.
use Prim.Native.Nat.{◌+◌, ◌-◌, ◌*◌, ◌≤◌}
use mathlib.Core.Path.{◌≡◌}
use lib.ListN.{length, drop}
use Rattle.text.specs.Commands.{named_from}
use Rattle.text_command.specs.Method.{words_in}
use Rattle.text_command.proofs.number_among.Given as goal

abbrev pub invariant-loop-at : goal.invariant-loop-at
invariant-loop-at l = (1 ≤ l.n) × (l.at + 8 ≡ 8 * l.n) × (named_from 1 (words_in 255 l.words) l.word ≡ named_from l.n (words_in (256 - l.n) (drop l.at l.words)) l.word)

abbrev pub decreases-loop-at : goal.decreases-loop-at
decreases-loop-at l = length l.words - l.at
