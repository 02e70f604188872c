-- The lines that the programs print.
use Rattle.std.specs.Prelude.{ℕ, ◌+◌, ◌≡◌, List, [], ◌∷◌, ◌++◌, length}
use Rattle.std.proofs.lemmas.List.Edits.{sets}
use Rattle.text.specs.declared.Row.{Row}
use Rattle.decimal.specs.Decimal.{decimal}
use Rattle.text.specs.Words.{bytes, blank, line_end}

unfoldable pub walk_header : List ℕ
walk_header = bytes "n op code run rel clock\n"

unfoldable pub draw_header : List ℕ
draw_header = bytes "n op a b value code run rel clock\n"

-- a number, and the byte behind it
abbrev pub field : ℕ → ℕ → List ℕ
field n end = decimal n ++ (end ∷ [])

-- what both show of the answer: code, running, released, clock
unfoldable pub answer_fields : Row → List ℕ
answer_fields r =
    field r.code blank ++ field r.running blank ++ field r.released blank ++ field r.clock line_end

-- walk: line number, op, and the answer
unfoldable pub walk_line : Row → List ℕ
walk_line r = field r.n blank ++ field r.op blank ++ answer_fields r

-- draw: a, b and value behind op
unfoldable pub draw_line : Row → List ℕ
draw_line r =
    field r.n blank ++ field r.op blank ++ field r.a blank ++ field r.b blank ++ field r.value blank
    ++ answer_fields r

-- the room that a header, a line of walk and a line of draw ask for: no less than they ever need
abbrev pub header_room : ℕ
header_room = 64

abbrev pub walk_room : ℕ
walk_room = 128

abbrev pub draw_room : ℕ
draw_room = 192

-- Text that stands in a buffer where it was put: the buffer after it, and the place behind it.
pub record Written (out : List ℕ) (at : ℕ) (text after : List ℕ) (next : ℕ) : Type 0 where
  pub contents : after ≡ sets out at text
  pub place : next ≡ at + length text
