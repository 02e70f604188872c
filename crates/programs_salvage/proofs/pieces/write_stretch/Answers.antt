-- The stretch is empty, or its line is written.
use Rattle.programs_salvage.proofs.Puts.{none_taken, one_taken}
use Rattle.programs_salvage.proofs.pieces.write_stretch.Goals as goal

pub returns-then-x-eq0 : goal.returns-then-x-eq0
returns-then-x-eq0 g c =
    let x = c.last_stretch-x in
    none_taken x.result _ c.args.w x.ensures c.if-x-eq0.true

pub returns : goal.returns
returns g c =
    let x = c.last_stretch-x in
    let put = c.put_dropped-n in
    let w = c.write_whole in
    one_taken x.result _ _ put.result c.args.w w.result x.ensures c.if-x-eq0.false put.ensures.0 w.ensures
