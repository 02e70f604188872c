-- `generator_menu::worths` meets its contract, by what `worth` ensures of each kind. Assumes nothing.
use Rattle.generator_menu.specs.Tables.{worths_of}
use Rattle.generator_menu.proofs.worths.Goals as goal

pub returns : goal.returns
unfolding worths_of
returns c =
    let e = c in
    let d = e in
    rw (
      c.worth-done.ensures,
      c.worth-entry.ensures,
      e.worth-closef.ensures,
      e.worth-closep.ensures,
      e.worth-open.ensures,
      d.worth-advance.ensures,
      d.worth-delay.ensures,
    )
