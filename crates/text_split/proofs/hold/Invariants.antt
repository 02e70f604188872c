-- `text_split::hold` meets its contract. The invariant: what is stored, with the rest of the piece stored behind it, is what is wanted. Assumes nothing.
use Prim.Native.Nat.{◌+◌, ◌-◌, ◌≤◌}
use mathlib.Core.Path.{◌≡◌}
use lib.Seq.{sets}
use lib.ListN.{length, drop}
use Rattle.text_split.proofs.hold.Given as goal

abbrev pub invariant-loop-i : goal.invariant-loop-i
invariant-loop-i l = (l.i ≤ length l.piece) × (l.n ≤ 129) × (length l.bytes ≡ 129) × (sets l.bytes l.n (drop l.i l.piece) ≡ sets l.initial.bytes l.initial.n l.piece) ×
    (l.n + (length l.piece - l.i) ≡ l.initial.n + length l.piece)

abbrev pub decreases-loop-i : goal.decreases-loop-i
decreases-loop-i l = length l.piece - l.i
