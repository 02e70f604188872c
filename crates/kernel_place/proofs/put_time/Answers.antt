-- `kernel_line::put_time` meets its contract: placing is inserting where the test stops. Assumes nothing.
use Rattle.kernel_line.proofs.Laws.{place_lead}
use Rattle.kernel_line.specs.Tables.{later}
use Rattle.kernel_place.proofs.put_time.Goals as goal

pub returns : goal.returns
returns c =
    let a = c.args in
    rw (c.put_at.ensures, c.front_time-i.ensures, place_lead (later a.until.now a.v) a.t.0 a.line.now)
