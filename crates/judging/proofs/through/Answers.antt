-- `through` meets its contract: the run is behind the whole records, and what is left behind them is held (Bytewise). Assumes nothing.
use mathlib.Core.Path.{refl}
use Rattle.judging.proofs.Bytewise.{through_rest}
use Rattle.judging.proofs.through.Goals as goal

pub returns : goal.returns
returns c =
    let a = c.args in
    let r = c.records-behind in
    through_rest a.run r.result a.piece.now _ c.together-held.result r.ensures refl c.together-held.ensures
