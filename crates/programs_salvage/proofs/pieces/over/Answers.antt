-- What the loop and the end come to on the whole tape (proofs/Rounds).
use Rattle.programs_salvage.proofs.Rounds.{finished}
use Rattle.programs_salvage.proofs.pieces.over.Goals as goal

pub returns : goal.returns
returns g c =
    let t = c.all_pieces-t in
    let end = c.conclude in
    finished t.result.stand _ t.result.went end.result t.ensures.0 t.ensures.1 t.ensures.2 end.ensures
