-- Of what was put, as much is written as was put (proofs/Turns).
use Rattle.std.proofs.Common.{arith, sym, ◌∙◌}
use Rattle.programs_flow.proofs.Rooms.{laid_put}
use Rattle.programs_flow.proofs.Turns.{gone_on, fed_so}
use Rattle.programs_flow.proofs.pieces.one_piece.Goals as goal

pub shared_whole_as_front-write_whole : goal.shared_whole_as_front-write_whole
shared_whole_as_front-write_whole g c =
    let put = c.feed-behind.ensures in
    (omega (arith, put.2.0, put.3), omega (arith, g.met.P.Program.fits))

pub returns : goal.returns
returns g c =
    let p = g.P.Program in
    let came = c.read_piece-came in
    let f = c.feed-behind.ensures in
    let on = gone_on came.result.state (sym c.goes_on.ensures ∙ c.if-not-goes_on.false) in
    fed_so p.after (p.text _) c.args.s.now _ c.args.was came.result _ _ _ _ _ on came.ensures c.brought-n.ensures f.0 (laid_put _ _ _ _ f.1 f.2.0)
    c.write_whole.ensures
