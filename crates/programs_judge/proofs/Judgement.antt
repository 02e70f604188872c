-- The judge over pieces: it judges what stands behind them. Assumes nothing.
use Prim.Native.Nat.{ℕ}
use mathlib.Core.Path.{◌≡◌, refl}
use mathlib.Core.List.{List, [], ◌∷◌}
use Rattle.judging.specs.declared.Judge.{Judge}
use Rattle.judging.specs.Pieces.{fed, ended, judged_in}
use Rattle.programs_flow.specs.Loops.{behind}

pub judged_behind : (ps : List (List ℕ)) (j : Judge) → judged_in j ps ≡ ended (behind fed j ps)
unfolding judged_in behind
judged_behind [] j = refl
judged_behind (p ∷ ps) j = judged_behind ps (fed j p)
