-- `sound` is is_sound: the tables are lent to the test. Assumes nothing.
use Rattle.kernel.proofs.in_place.sound.Goals as goal

pub returns : goal.returns
returns c = c.sound.ensures
