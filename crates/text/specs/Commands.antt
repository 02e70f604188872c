-- "A line is the command's word and its operands in the table's order (a, b, value), single blanks, unsigned decimals
-- without needless zeros; a and b at most 255, value at most 2^64-1; at most 64 bytes before the line end. Anything
-- else, an empty line included, is 14."
use Rattle.std.specs.Prelude.{ℕ, suc, ◌-◌, Bool, true, false, cond, not, ◌&&◌, List, [], ◌∷◌, ◌++◌, eqb, leb, get_or, length}
use Rattle.rules.specs.Line.{among, empty}
use Rattle.text.specs.declared.Spoken.{Spoken}
use Rattle.decimal.specs.Decimal.{decimal, number_of}
use Rattle.text.specs.Words.{bytes, blank, word, behind, same}

-- the words, of op 1 to 15
abbrev pub words : List (List ℕ)
words =
    bytes "create" ∷ bytes "object" ∷ bytes "start" ∷ bytes "delay" ∷ bytes "wake" ∷ bytes "advance"
    ∷ bytes "open" ∷ bytes "closep" ∷ bytes "closef" ∷ bytes "entry" ∷ bytes "done"
    ∷ bytes "failp" ∷ bytes "failf" ∷ bytes "faile" ∷ bytes "failw" ∷ []

-- the op that a word names, 0 for none: the first of the words is op n
unfoldable pub named_from : ℕ → List (List ℕ) → List ℕ → ℕ
named_from n [] w = 0
named_from n (x ∷ l) w = cond (same w x) n (named_from (suc n) l w)

unfoldable pub op_named : List ℕ → ℕ
op_named w = named_from 1 words w

-- the operands in use (proofs/Theorems has that they are those of the rules)
abbrev pub uses_a : ℕ → Bool
uses_a op = among (1 ∷ 2 ∷ 7 ∷ 8 ∷ 9 ∷ 10 ∷ 11 ∷ 12 ∷ 13 ∷ 14 ∷ 15 ∷ []) op

abbrev pub uses_b : ℕ → Bool
uses_b op = among (1 ∷ 2 ∷ 8 ∷ 10 ∷ 11 ∷ 12 ∷ 14 ∷ 15 ∷ []) op

abbrev pub uses_value : ℕ → Bool
uses_value op = among (4 ∷ 6 ∷ []) op

-- The ops whose a may be left out of the line. Left out it is 0, and a 0 is not written, so that each command has one
-- line; nothing stands behind it (proofs/OneLine: `left_out_last`). There is none today.
abbrev pub left_out : List ℕ
left_out = []

abbrev pub omits_a : ℕ → Bool
omits_a op = among left_out op

-- What a part of a line gives: whether it has the form, the number there, and the line behind it.
pub record Part : Type 0 where
  pub valid : Bool
  pub value : ℕ
  pub left : List ℕ

-- a blank and a decimal up to `most`
unfoldable pub decimal_next : ℕ → List ℕ → Part
decimal_next most [] = record { valid = false; value = 0; left = [] }
decimal_next most (b ∷ l) =
    cond (eqb b blank)
    (record { valid = (number_of (word l) most).valid; value = (number_of (word l) most).value; left = behind l })
    (record { valid = false; value = 0; left = b ∷ l })

-- an operand in use; one that is not in use is 0, and takes no byte
unfoldable pub operand : Bool → ℕ → List ℕ → Part
operand used most l = cond used (decimal_next most l) (record { valid = true; value = 0; left = l })

-- an operand that may be left out, where `omits` is true: it is in use where the line goes on, and is not 0 then
unfoldable pub operand_unless : Bool → Bool → ℕ → List ℕ → Part
operand_unless omits used most l =
    let p = operand (not (omits && empty l) && used) most l in
    record { valid = not (omits && not (empty l) && eqb p.value 0) && p.valid; value = p.value; left = p.left }

-- the largest a and b, and the largest value
abbrev pub byte_most : ℕ
byte_most = 255

abbrev pub value_most : ℕ
value_most = 18446744073709551615

abbrev pub no_command : Spoken
no_command = record { code = 14; op = 0; a = 0; b = 0; value = 0 }

-- the operands of an op, read from what follows its word
unfoldable pub spoken_by : ℕ → List ℕ → Spoken
spoken_by op l =
    let a = operand_unless (omits_a op) (uses_a op) byte_most l in
    let b = operand (uses_b op) byte_most a.left in
    let v = operand (uses_value op) value_most b.left in
    cond (leb 1 op && a.valid && b.valid && v.valid && empty v.left)
    (record { code = 0; op = op; a = a.value; b = b.value; value = v.value })
    no_command

-- What a line says: code 0 and a command, or 14 and zeros.
unfoldable pub command_of : List ℕ → Spoken
command_of line = cond (leb (length line) 64) (spoken_by (op_named (word line)) (behind line)) no_command

-- The line of a command.
abbrev pub operand_text : Bool → ℕ → List ℕ
operand_text used n = cond used (blank ∷ decimal n) []

-- what may be left out is written where it is not 0
abbrev pub written : Bool → Bool → ℕ → Bool
written omits used n = not (omits && eqb n 0) && used

unfoldable pub line_of : Spoken → List ℕ
line_of c =
    get_or words (c.op - 1) []
    ++ (operand_text (written (omits_a c.op) (uses_a c.op) c.a) c.a
    ++ (operand_text (uses_b c.op) c.b ++ operand_text (uses_value c.op) c.value))
