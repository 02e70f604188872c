-- The tape reader of document 01: its checks in their order, and what it hands back. (15 is the refusal Record, 17 Seed.)
-- Assumes nothing.
use Rattle.std.specs.Prelude.{ℕ, ◌+◌, ◌%◌, ◌≡◌, List, cond, not, length, take, drop, ltb, eqb}
use Rattle.std.specs.Prelude.{Option, Some, None, Result, Ok, Err}
use Rattle.std.specs.Borrow.{Bor}
use Rattle.rules.specs.declared.Refusal.{Refusal}
use Rattle.rules.specs.declared.Refusal.TheVariants.{Record as NoRecord, Seed}
use Rattle.rules.specs.Numbers as refusals
use Rattle.record.specs.declared.Record.{Record}
use Rattle.record.specs.Form.{record_of, is_header, is_bad_header, is_command}

-- what stands at a place: a record, and the place behind it; the end; or a refusal
abbrev pub Read : Type 0
Read = Result (Option (Record × ℕ)) Refusal

-- 16 bytes at a place: at place 0 a header, else 15, and 17 for its value; elsewhere a command record, else 15
unfoldable pub judged : ℕ → List ℕ → Read
judged at p =
    cond (eqb at 0) (cond (is_header p) (Ok (Some (record_of p, at + 16))) (cond (is_bad_header p) (Err Seed) (Err NoRecord)))
    (cond (is_command p) (Ok (Some (record_of p, at + 16))) (Err NoRecord))

-- at the end: a tape of length 0 has no header and is 15
unfoldable pub end_of : ℕ → Read
end_of n = cond (eqb n 0) (Err NoRecord) (Ok None)

-- The reader's checks, in their order: a place that is no multiple of 16, past the end, at the end, fewer than 16
-- bytes left, the 16 bytes.
unfoldable pub read_of : List ℕ → ℕ → Read
read_of s at =
    cond (not (eqb (at % 16) 0)) (Err NoRecord)
    (cond (ltb (length s) at) (Err NoRecord)
    (cond (eqb at (length s)) (end_of (length s))
    (cond (ltb (length s) (at + 16)) (Err NoRecord) (judged at (take 16 (drop at s))))))

-- document 01's number for an answer: 0 for a record and for the end, else the refusal's, whatever says which that is
abbrev pub number_by : {E : Type 0} → (E → ℕ) → Result (Option (Record × ℕ)) E → ℕ
number_by n (Ok x) = 0
number_by n (Err e) = n e

abbrev pub number_of : Read → ℕ
number_of r = number_by refusals.number_of r

-- how many bytes an answer hands back: a record's own 16, else none
abbrev pub size_of : Read → ℕ
size_of (Ok (Some x)) = 16
size_of (Ok None) = 0
size_of (Err e) = 0

-- the place after an answer: behind the record, else kept, whatever the refusal is
abbrev pub place_of : {E : Type 0} → ℕ → Result (Option (Record × ℕ)) E → ℕ
place_of at (Ok (Some x)) = x.1
place_of at (Ok None) = at
place_of at (Err e) = at

-- where an answer's part starts on the tape: at the place; an empty part counts from the tape's start
abbrev pub start_of : ℕ → Read → ℕ
start_of at (Ok (Some x)) = at
start_of at (Ok None) = 0
start_of at (Err e) = 0

-- What a reader at a place hands back: its number, its part of the tape, where that part starts, and the next place.
unfoldable pub code_at : List ℕ → ℕ → ℕ
code_at s at = number_of (read_of s at)

unfoldable pub part_at : List ℕ → ℕ → List ℕ
part_at s at = take (size_of (read_of s at)) (drop at s)

unfoldable pub start_at : List ℕ → ℕ → ℕ
start_at s at = start_of at (read_of s at)

unfoldable pub next_at : List ℕ → ℕ → ℕ
next_at s at = place_of at (read_of s at)

-- A part is the one that a reader of the tape at a place hands back: it has those contents, lies in the tape's own
-- memory, and starts there.
abbrev pub PartAt : Bor (List ℕ) → ℕ → Bor (List ℕ) → Type 0
PartAt tape at part =
    (part.now ≡ part_at tape.now at) × (part.ref_ptr.0 ≡ tape.ref_ptr.0)
    × (part.ref_ptr.1 ≡ tape.ref_ptr.1 + start_at tape.now at)
