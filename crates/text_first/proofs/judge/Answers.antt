-- `text_first::judge` meets its contract. Assumes nothing.
use Rattle.text.specs.FirstLine.{judged}
use Rattle.text_first.proofs.judge.Goals as goal

pub returns : goal.returns
unfolding judged
returns c = cc
