-- The reader that holds its tape: the contracts of `open` and `next`. Assumes nothing.
use Rattle.std.specs.Prelude.{◌≡◌, List, ℕ, Result, Ok, Err, IsOk}
use Rattle.std.specs.Borrow.{Bor}
use Rattle.rules.specs.declared.Refusal.{Refusal}
use Rattle.tape_form.specs.Read.{read_of, next_at, PartAt}
use Rattle.tape_reader.specs.declared.Reader.{Reader}

-- a reader that is opened on a tape
abbrev pub Opened : Bor (List ℕ) → Reader → Type 0
Opened tape r = (r.tape ≡ tape) × (r.at ≡ 0)

-- what is handed back at a place: the part of a record, and at the end the empty one; or the refusal
abbrev pub Handed : Bor (List ℕ) → ℕ → Result (Bor (List ℕ)) Refusal → Type 0
Handed tape at (Ok part) = IsOk (read_of tape.now at) × PartAt tape at part
Handed tape at (Err e) = read_of tape.now at ≡ Err e

-- a reader's next record: what is handed back, and the reader after it
abbrev pub Next : Reader → Result (Bor (List ℕ)) Refusal → Reader → Type 0
Next r p after = Handed r.tape r.at p × (after.tape ≡ r.tape) × (after.at ≡ next_at r.tape.now r.at)
