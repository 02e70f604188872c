-- The header, the pieces and the end make a whole run (proofs/Turns).
use Rattle.std.proofs.Common.{[], arith, refl, subst}
use Rattle.programs_flow.specs.Loops.{Looped}
use Rattle.programs_flow.proofs.Rooms.{laid_put}
use Rattle.programs_flow.proofs.Turns.{headed, ran}
use Rattle.programs_flow.proofs.pieces.over_pieces.Goals as goal

pub shared_whole_as_front-write_whole : goal.shared_whole_as_front-write_whole
shared_whole_as_front-write_whole g c =
    let put = c.put_header-head.ensures in
    (omega (arith, put.1.0, put.2), omega (arith, g.met.P.Program.fits))

pub returns-clause-parts : goal.returns-clause-parts
returns-clause-parts g c =
    let p = g.P.Program in
    let put = c.put_header-head in
    let w = c.write_whole-headed in
    record {
      headed = w.result;
      read = c.all_pieces-read.result;
      first = headed p.header _ put.result c.going.result w.result c.going.ensures (laid_put _ _ _ _ put.ensures.0 put.ensures.1.0) w.ensures;
      loop =
          subst (λ s. Looped p.after (p.text c.args.program.now) (p.wants c.args.program.now) s c.all_pieces-read.new.s w.result c.all_pieces-read.result)
          c.begin-s.ensures c.all_pieces-read.ensures;
      end = c.conclude.ensures;
    }

pub returns-clause-ran : goal.returns-clause-ran
returns-clause-ran g c =
    let p = g.P.Program in
    let t = c.all_pieces-read.new.s in
    ran p.after (p.text _) (p.wants _) p.first t p.header (p.printed _ t []) c.conclude.result (returns-clause-parts g c)
    (p.printed _) (g.met.P.Program.by_piece _) refl
