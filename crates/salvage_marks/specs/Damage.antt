-- A torn tape in parts: its records, and what damage left between them; and the damage that loses no record. Assumes
-- nothing.
use Rattle.std.specs.Prelude.{ℕ, ◌+◌, ◌<◌, ◌≡◌, List, [], ◌∷◌, ◌++◌, false, length}
use Rattle.salvage_marks.specs.Torn.{makes, closed}
use Rattle.salvage_marks.specs.Words.{Whole}
use Rattle.salvage_marks.specs.declared.Stretch.{Stretch}

-- no command record begins in x, where r stands behind it
abbrev pub Clear : List ℕ → List ℕ → Type 0
Clear [] r = Unit {0}
Clear (b ∷ x) r = (makes false (b ∷ (x ++ r)) ≡ false) × Clear x r

-- A place of damage, and the records behind it up to the next place. `junk` is what stands there now: bytes that were
-- put in, bytes that were written over, what is left of a torn record; none where whole records were cut out.
pub record Gap : Type 0 where
  pub junk : List ℕ
  pub records : List ℕ

-- the torn tape from its first gap on: gap by gap, and at its end bytes behind the last record (one that was cut
-- short, or none)
abbrev pub torn_at : List Gap → List ℕ → List ℕ
torn_at [] end = end
torn_at (g ∷ gs) end = g.junk ++ (g.records ++ torn_at gs end)

-- the records behind the gaps
abbrev pub saved : List Gap → List ℕ
saved [] = []
saved (g ∷ gs) = g.records ++ saved gs

-- the junk, as stretches, where the first gap stands at a place; a gap without junk is none
abbrev pub gaps : ℕ → List Gap → List ℕ → List Stretch
gaps at [] end = closed at (at + length end) []
gaps at (g ∷ gs) end =
    closed at (at + length g.junk) (gaps (at + length g.junk + length g.records) gs end)

-- Behind each gap stand command records, one at least; and no command record begins in junk or in the end.
abbrev pub LosesNone : List Gap → List ℕ → Type 0
LosesNone [] end = Clear end []
LosesNone (g ∷ gs) end =
    (0 < length g.records) × Whole false g.records × Clear g.junk (g.records ++ torn_at gs end)
    × LosesNone gs end
