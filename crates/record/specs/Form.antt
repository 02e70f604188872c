-- The record of document 01, "Tape": its 16 bytes, and when fields or bytes are a header or a command record. Assumes
-- nothing.
use Rattle.std.specs.Prelude.{ℕ, ◌+◌, ◌*◌, ◌/◌, ◌%◌, List, [], ◌∷◌, Bool, not, ◌&&◌, get_or, leb, eqb}
use Rattle.record.specs.declared.Record.{Record}

-- The ranges of the fields, each in this one place: the last edition, op, code, task and seed.
abbrev pub last_edition : ℕ
last_edition = 2

abbrev pub last_op : ℕ
last_op = 15

abbrev pub last_code : ℕ
last_code = 13

abbrev pub last_task : ℕ
last_task = 31

abbrev pub last_seed : ℕ
last_seed = 4294967295

-- The 16 bytes by name: the two bytes of the mark, where each field of one byte stands, and where the value begins.
abbrev pub mark_first : ℕ
mark_first = 82

abbrev pub mark_second : ℕ
mark_second = 86

abbrev pub op_at : ℕ
op_at = 2

abbrev pub a_at : ℕ
a_at = 3

abbrev pub b_at : ℕ
b_at = 4

abbrev pub code_at : ℕ
code_at = 5

abbrev pub running_at : ℕ
running_at = 6

abbrev pub released_at : ℕ
released_at = 7

abbrev pub value_at : ℕ
value_at = 8

-- a value's 8 bytes, least first
abbrev pub le8 : ℕ → List ℕ
le8 x =
    x % 256 ∷ x / 256 % 256 ∷ x / 65536 % 256 ∷ x / 16777216 % 256 ∷ x / 4294967296 % 256 ∷ x / 1099511627776 % 256
    ∷ x / 281474976710656 % 256 ∷ x / 72057594037927936 % 256 ∷ []

-- the value of 8 bytes that stand from index i on, least first
abbrev pub of_le : List ℕ → ℕ → ℕ
of_le p i =
    get_or p i 0 + 256 * get_or p (i + 1) 0 + 65536 * get_or p (i + 2) 0 + 16777216 * get_or p (i + 3) 0 + 4294967296 * get_or p
    (i + 4) 0
    + 1099511627776 * get_or p (i + 5) 0 + 281474976710656 * get_or p (i + 6) 0 + 72057594037927936 * get_or p (i + 7) 0

-- a record's 16 bytes: the mark 0x52 0x56, then op, a, b, code, running, released, one byte each, then value, 8 bytes,
-- least first
unfoldable pub bytes_of : Record → List ℕ
bytes_of r =
    mark_first ∷ mark_second ∷ r.op ∷ r.a ∷ r.b ∷ r.code ∷ r.running ∷ r.released ∷ le8 r.value

-- the fields that 16 bytes hold, whatever their mark; a byte that is not there counts as 0
unfoldable pub record_of : List ℕ → Record
record_of p =
    record {
      op = get_or p op_at 0;
      a = get_or p a_at 0;
      b = get_or p b_at 0;
      code = get_or p code_at 0;
      running = get_or p running_at 0;
      released = get_or p released_at 0;
      value = of_le p value_at;
    }

-- the mark 0x52 0x56
abbrev pub marked : List ℕ → Bool
marked p = eqb (get_or p 0 0) mark_first && eqb (get_or p 1 0) mark_second

-- an edition, by which the commands of a tape were drawn: 1, or 2, by even odds (request 4)
abbrev pub is_edition : ℕ → Bool
is_edition e = leb 1 e && leb e last_edition

-- a header's fields, its value aside: op 0, a is an edition, the next four bytes 0
abbrev pub header_fields : Record → Bool
header_fields r =
    eqb r.op 0 && is_edition r.a && eqb r.b 0 && eqb r.code 0 && eqb r.running 0 && eqb r.released 0

-- a seed: 1..4294967295
abbrev pub is_seed : ℕ → Bool
is_seed v = leb 1 v && leb v last_seed

-- what makes a command record beside its mark: op 1..15, code 0..13, running and released 0..31
abbrev pub in_command : ℕ → ℕ → ℕ → ℕ → Bool
in_command op code running released =
    leb 1 op && leb op last_op && leb code last_code && leb running last_task && leb released last_task

-- a command record's fields; operand bytes and value may hold anything
abbrev pub command_fields : Record → Bool
command_fields r = in_command r.op r.code r.running r.released

-- the header of a tape of an edition, made with a seed
abbrev pub header_of : ℕ → ℕ → Record
header_of edition seed = record { op = 0; a = edition; b = 0; code = 0; running = 0; released = 0; value = seed }

-- 16 bytes are a header
abbrev pub is_header : List ℕ → Bool
is_header p = marked p && header_fields (record_of p) && is_seed (record_of p).value

-- 16 bytes are a header else right whose value is no seed
abbrev pub is_bad_header : List ℕ → Bool
is_bad_header p = marked p && header_fields (record_of p) && not (is_seed (record_of p).value)

-- 16 bytes are a command record
abbrev pub is_command : List ℕ → Bool
is_command p = marked p && command_fields (record_of p)
