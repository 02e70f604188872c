-- What is lent has room for a line (show_text/proofs/Rooms).
use Rattle.std.proofs.Common.{arith}
use Rattle.show_text.specs.Block.{show_room}
use Rattle.show_text.specs.Show.{last_text}
use Rattle.programs_flow.proofs.Rooms.{put_roomy}
use Rattle.programs_show.proofs.put_last.Goals as goal

pub returns : goal.returns
returns c =
    let a = c.args in
    let f = c.finish in
    (put_roomy show_room (last_text a.only a.w) a.out.now _ _ (omega (arith, c.requires)) f.ensures.0 f.ensures.1 f.ensures.2.0, f.ensures.2)
