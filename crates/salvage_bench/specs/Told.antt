-- What is timed: a whole tape's code and buffers, and a piece's, with the numbers that a caller in C goes on with.
-- Assumes nothing.
use Rattle.std.specs.Prelude.{ℕ, ◌≡◌, List, [], ◌∷◌, false, cond, length, ltb, Result, Ok, Err}
use Rattle.std.proofs.lemmas.List.Edits.{sets}
use Rattle.rules.specs.Numbers.{number_of}
use Rattle.rules.specs.declared.Refusal.{Refusal}
use Rattle.salvage_marks.specs.declared.Torn.{Torn}
use Rattle.salvage_marks.specs.declared.Fed.{Fed}
use Rattle.salvage_marks.specs.Torn.{kept, dropped, cells, fits, salvaged_of}
use Rattle.salvage_marks.specs.Pieces.{written, listed, fed_fits, fed_of}

-- what C gets of an answer: 0, or the refusal's number
abbrev pub code_of : {A : Type 0} → Result A Refusal → ℕ
code_of (Ok x) = 0
code_of (Err e) = number_of e

-- the numbers of a piece, where there are four places for them
abbrev pub told_of : Torn → ℕ → ℕ → List ℕ → List ℕ
told_of t kept cells told = cond (ltb (length told) 4) told (sets told 0 (t.place ∷ t.from ∷ kept ∷ cells ∷ []))

-- those of a salvage's answer to a piece: of one that is refused the salvage as it was, and zeros
abbrev pub told_by : Torn → Result Fed Refusal → List ℕ → List ℕ
told_by t (Ok f) told = told_of f.torn f.kept f.cells told
told_by t (Err e) told = told_of t 0 0 told

abbrev pub Whole : List ℕ → List ℕ → List ℕ → ℕ → List ℕ → List ℕ → Type 0
Whole s out list c out' list' =
    (c ≡ code_of (salvaged_of s (length out) (length list)))
    × (out' ≡ cond (fits s (length out) (length list)) (sets out 0 (kept s)) out)
    × (list' ≡ cond (fits s (length out) (length list)) (sets list 0 (cells (dropped s))) list)

-- a salvage that goes on at a place, where the open stretch begins at `from`
abbrev pub start : ℕ → ℕ → Torn
start place from = record { place = place; from = from; headed = false }

abbrev pub Piece : Torn → List ℕ → List ℕ → List ℕ → List ℕ → ℕ → List ℕ → List ℕ → List ℕ → Type 0
Piece t buf out list told c out' list' told' =
    (c ≡ code_of (fed_of t buf (length out) (length list)))
    × (out' ≡ cond (fed_fits t buf (length out) (length list)) (sets out 0 (written t buf)) out)
    × (list' ≡ cond (fed_fits t buf (length out) (length list)) (sets list 0 (cells (listed t buf))) list)
    × (told' ≡ told_by t (fed_of t buf (length out) (length list)) told)
