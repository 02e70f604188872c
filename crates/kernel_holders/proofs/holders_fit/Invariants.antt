-- `holders_fit` meets its contract. The invariant: the holders fit just when the rest does, with the objects taken so far. Assumes nothing.
use mathlib.Core.Path.{◌≡◌}
use lib.ListN.{length, drop, replicate}
use Rattle.kernel_cells.specs.Cells.{holders_fit}
use Rattle.kernel_holders.proofs.holders_fit.Given as goal

abbrev pub invariant-loop-t : goal.invariant-loop-t
invariant-loop-t l = (length l.taken ≡ 8) × (holders_fit l.ceiling (replicate 8 0) l.base l.held ≡ holders_fit l.ceiling l.taken (drop l.t l.base) (drop l.t l.held))
