-- The turns are counted, and each is a piece (proofs/Turns).
use Rattle.std.proofs.Common.{refl, sym, ◌∙◌}
use Rattle.programs_flow.proofs.Turns.{gone_on, at_start, one_turn}
use Rattle.programs_flow.proofs.pieces.all_pieces.Goals as goal

pub loop-init : goal.loop-init
loop-init g c = let p = g.P.Program in at_start p.after (p.text _) c.args.s.now _ _ _ refl refl

pub loop-preserved : goal.loop-preserved
loop-preserved g c =
    let p = g.P.Program in
    let lp = c.loop in
    let on = gone_on lp.went.state (sym c.goes_on.ensures ∙ c.if-not-goes_on.false) in
    one_turn p.after (p.text _) c.args.s.now lp.s _ _ lp.went _ _ lp.invariant on _ _ c.one_piece-went.ensures
