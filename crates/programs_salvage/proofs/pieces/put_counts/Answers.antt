-- There is room.
use Rattle.salvage_text.specs.Lines.{last_text, last_room}
use Rattle.salvage_text.proofs.Bounds.{last_short}
use Rattle.programs_salvage.proofs.Puts.{put_there}
use Rattle.programs_salvage.proofs.pieces.put_counts.Goals as goal

pub returns : goal.returns
returns c =
    let a = c.args in
    let f = c.put_last in
    put_there last_room (last_text a.records a.dropped a.headed) a.text.now f.new.out f.result c.requires
    (last_short a.records a.dropped a.headed) f.ensures
