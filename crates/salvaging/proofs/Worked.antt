-- Where a pass may start, of bytes that are written out, by computing.
-- Rules out: `Starts` held to a header, whose laws would then say nothing of a pass that starts behind two records. Assumes nothing.
use Prim.Native.Nat.{ℕ}
use native.Mathlib.Omega.{arith}
use mathlib.Core.Path.{◌≡◌, refl}
use mathlib.Core.List.{List, [], ◌∷◌, ◌++◌}
use Rattle.record.specs.Form.{record_of}
use Rattle.salvage_marks.specs.Torn.{makes, pick, closed, headed, cells}
use Rattle.salvage_marks.specs.Pieces.{ahead, ended, begun}
use Rattle.salvaging.specs.Walk.{passed_of, passed_on}
use Rattle.salvaging.proofs.Starts.{Starts, start_passed}

-- two command records, of distinct numbers
abbrev create : List ℕ
create = 82 ∷ 86 ∷ 1 ∷ 4 ∷ 5 ∷ 0 ∷ 7 ∷ 8 ∷ 6 ∷ 0 ∷ 0 ∷ 0 ∷ 0 ∷ 0 ∷ 0 ∷ 0 ∷ []

abbrev declare : List ℕ
declare = 82 ∷ 86 ∷ 2 ∷ 3 ∷ 9 ∷ 0 ∷ 10 ∷ 11 ∷ 12 ∷ 0 ∷ 0 ∷ 0 ∷ 0 ∷ 0 ∷ 0 ∷ 0 ∷ []

-- The pass over both, at place 48 of a tape, may start behind both.
pub behind_two : Starts 48 48 32 (create ++ declare)
unfolding ahead ended begun pick headed cells makes closed record_of
behind_two = record { within = omega arith; marks = refl; begins = refl; bytes = refl; stretches = refl; header = refl }

pub passed_two : passed_on (create ++ declare) 48 32 80 32 0 ≡ passed_of 48 48 (create ++ declare)
passed_two = start_passed 48 48 32 (create ++ declare) behind_two
