-- `list_one` meets its contract: a stretch is two stores. Assumes nothing.
use native.Mathlib.Omega.{arith}
use lib.ListN.{length-set}
use native.Mathlib.Numerals.{add-one}
use Rattle.salvaging.proofs.Turns.{two_cells}
use Rattle.salvage_marks.specs.Torn.{cells}
use Rattle.salvaging.proofs.sinks.list_one.Goals as goal

pub bounds-list-j : goal.bounds-list-j
bounds-list-j c = omega (arith, two_cells c.in-Some.is)

pub bounds-list-j-in-Some : goal.bounds-list-j-in-Some
bounds-list-j-in-Some c = simp length-set (omega (arith, two_cells c.in-Some.is))

pub returns-in-Some : goal.returns-in-Some
unfolding cells
returns-in-Some c = rw (c.in-Some.is, add-one c.args.j)

pub returns-in-None : goal.returns-in-None
unfolding cells
returns-in-None c = rw c.in-None.is
