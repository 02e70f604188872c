-- The lines that the program salvage prints: one for each dropped stretch, and the last line.
use Rattle.std.specs.Prelude.{ℕ, ◌*◌, Bool, cond, List, [], ◌∷◌, ◌++◌, length}
use Rattle.decimal.specs.Decimal.{decimal}
use Rattle.text.specs.Words.{bytes}

-- dropped: first byte F, length L
unfoldable pub stretch_text : ℕ → ℕ → List ℕ
stretch_text first size =
    bytes "dropped: first byte " ++ decimal first ++ bytes ", length " ++ decimal size ++ bytes "\n"

-- A list of stretches, first byte and length of one after another: a line for each. A number left over has none.
unfoldable pub list_text : List ℕ → List ℕ
list_text [] = []
list_text (first ∷ []) = []
list_text (first ∷ (size ∷ more)) = stretch_text first size ++ list_text more

-- whether the header was kept
unfoldable pub yes_no : Bool → List ℕ
yes_no headed = cond headed (bytes "yes\n") (bytes "no\n")

-- kept: records K, dropped bytes D, header yes
unfoldable pub last_text : ℕ → ℕ → Bool → List ℕ
last_text records dropped headed =
    bytes "kept: records " ++ decimal records ++ bytes ", dropped bytes " ++ decimal dropped ++ bytes ", header "
    ++ yes_no headed

-- the room that a line asks for: what its longest text has, a decimal having at most 20 digits
abbrev pub stretch_room : ℕ
stretch_room = 70

abbrev pub last_room : ℕ
last_room = 83

-- and a list: half a line for each of its numbers
abbrev pub list_room : List ℕ → ℕ
list_room cells = 35 * length cells
