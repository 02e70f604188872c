-- There is room.
use Rattle.salvage_text.specs.Lines.{list_text, list_room}
use Rattle.salvage_text.proofs.Bounds.{list_short}
use Rattle.programs_salvage.proofs.Puts.{put_there}
use Rattle.programs_salvage.proofs.pieces.put_dropped.Goals as goal

pub returns : goal.returns
returns c =
    let a = c.args in
    let f = c.put_list in
    put_there (list_room a.cells.now) (list_text a.cells.now) a.text.now f.new.out f.result c.requires (list_short a.cells.now) f.ensures
