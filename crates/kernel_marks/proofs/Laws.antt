-- Laws of the marks: what one turn of a loop over a line does to them, by the entry that the turn looks at. Assumes nothing.
use Prim.Native.Nat.{ℕ, ◌+◌, ◌≤◌, ◌<◌}
use native.Mathlib.Numerals.{add-one}
use mathlib.Core.Path.{◌≡◌}
use mathlib.Core.Bool.{Bool, true, false, cond}
use mathlib.Core.List.{List}
use lib.Dec.{eqb}
use lib.ListN.{length, drop, set, drop_of_length-le}
use lib.Seq.{drop-cons}
use Rattle.rules.specs.Line.{at}
use Rattle.kernel_marks.specs.Marks.{met, marks}

-- a loop that marks
module _ (stop : ℕ → Bool) (mark : ℕ) (l seen : List ℕ) (i : ℕ) where
  pub marks_stop : i < length l → stop (at l i) ≡ true → marks stop mark (drop i l) seen ≡ seen
  unfolding marks
  marks_stop h e = rw (drop-cons l i 0 h, e)

  pub marks_step : i < length l → stop (at l i) ≡ false
      → marks stop mark (drop i l) seen ≡ marks stop mark (drop (i + 1) l) (set seen (at l i) (cond (eqb (at l i) 0) 0 (met mark (at seen (at l i)))))
  unfolding marks
  marks_step h e = rw (add-one, drop-cons l i 0 h, e)

  pub marks_done : length l ≤ i → marks stop mark (drop i l) seen ≡ seen
  unfolding marks
  marks_done h = rw (drop_of_length-le l h)
