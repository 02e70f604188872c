-- `show_print::holder_of` meets its contract. The invariant: the holder so far is that of the tasks so far. Assumes nothing.
use Prim.Native.Nat.{◌-◌, ◌≤◌}
use mathlib.Core.Path.{◌≡◌}
use mathlib.Core.List.{[]}
use Rattle.show_text.specs.Block.{holder_below}
use Rattle.show_print.specs.Seen.{seen}
use Rattle.show_print.proofs.holder_of.Given as goal

abbrev pub invariant-loop-t : goal.invariant-loop-t
invariant-loop-t l = (l.t ≤ 32) × (l.holder ≡ holder_below l.t (seen [] [] l.held [] []) l.o)

abbrev pub decreases-loop-t : goal.decreases-loop-t
decreases-loop-t l = 32 - l.t
