-- `generator_menu::object_for` meets its contract, by what its callees ensure. Assumes nothing.
use Rattle.generator_menu.proofs.object_for.Goals as goal

pub returns-then-i : goal.returns-then-i
returns-then-i c = rw (c.nth_eligible.ensures, c.wider.ensures.0, c.if-i.true)

pub returns-else-i : goal.returns-else-i
returns-else-i c = rw (c.cell.ensures, c.if-i.false)
