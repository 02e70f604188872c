-- `session_draw::finish` meets its contract: no room for two lines, or both are put. Assumes nothing.
use Rattle.session_stage.specs.Stage.{as_moved}
use Rattle.session_draw.proofs.Drawing.{no_room_for_two, both_put}
use Rattle.session_draw.proofs.finish.Goals as goal

pub returns-then-out-lt384 : goal.returns-then-out-lt384
returns-then-out-lt384 c = let a = c.args in no_room_for_two a.r a.out.now c.if-out-lt384.true

pub returns : goal.returns
returns c =
    let put = c.put_shown-at in
    let a = c.args in
    let d = c.last_line-last.result.reader.run in
    let e = rw c.course_of.ensures at (c.end-e.ensures d.kernel) in
    rw c.run_of.ensures
    (both_put a.r a.out.now (as_moved d.kernel c.end-e.result) d c.last_line-last.result.at put.result c.last_line-last.new.out
    put.new.out
    c.last_line-last.ensures e put.ensures.0 put.ensures.1 c.if-out-lt384.false)
