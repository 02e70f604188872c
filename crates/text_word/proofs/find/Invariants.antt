-- `text_word::find` meets its contract. The invariant: the bytes passed and those before the next `stop` make all before the first. Assumes nothing.
use Prim.Native.Nat.{◌-◌}
use mathlib.Core.Path.{◌≡◌}
use lib.ListN.{length}
use Rattle.text_word.specs.Places.{place_of}
use Rattle.text_word.proofs.find.Given as goal

abbrev pub invariant-loop-i : goal.invariant-loop-i
invariant-loop-i l = place_of l.stop l.s l.i ≡ place_of l.stop l.s l.at

abbrev pub decreases-loop-i : goal.decreases-loop-i
decreases-loop-i l = length l.s - l.i
