-- `session_show::feed` meets its contract: proofs/Feeding has the invariant, and what a turn and each way out do. Assumes nothing.
use Prim.Native.Nat.{suc, ◌*◌, ◌≤◌}
use lib.ListN.{length}
use Rattle.show_text.specs.Show.{standing}
use Rattle.session_show.proofs.Feeding.{Still}
use Rattle.session_show.proofs.feed.Given as goal

abbrev pub invariant-loop-turns : goal.invariant-loop-turns
invariant-loop-turns l = Still l.only (standing l.initial.state l.initial.queue l.initial.kept l.initial.n) l.piece l.initial.out l.state l.queue l.kept l.n l.from l.at l.turns l.out × (4096 * suc (length l.piece) ≤ length l.initial.out)

abbrev pub decreases-loop-turns : goal.decreases-loop-turns
decreases-loop-turns l = l.turns
