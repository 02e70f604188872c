-- What is lent has room for a last line (session_walk_text/proofs/Rooms).
use Rattle.std.proofs.Common.{arith}
use Rattle.text.specs.Printed.{walk_room}
use Rattle.session_walk_text.specs.Walk.{last_text}
use Rattle.programs_flow.proofs.Rooms.{put_roomy}
use Rattle.programs_walk.proofs.put_last.Goals as goal

pub returns : goal.returns
returns c =
    let f = c.finish in (
      put_roomy walk_room (last_text c.args.w) c.args.out.now _ _ (omega (arith, c.requires)) f.ensures.0 f.ensures.1 f.ensures.2.0,
      f.ensures.2,
    )
