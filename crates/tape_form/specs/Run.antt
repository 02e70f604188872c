-- Runs of records: written one behind another, and read from a place on. Assumes nothing.
use Rattle.std.specs.Prelude.{ℕ, zero, suc, ◌+◌, ◌<◌, ◌≡◌, List, [], ◌∷◌, ◌++◌}
use Rattle.record.specs.declared.Record.{Record}
use Rattle.record.specs.Form.{bytes_of}
use Rattle.std.specs.Prelude.{Some, None, Ok}
use Rattle.tape_form.specs.Write.{write_code, write_of}
use Rattle.tape_form.specs.Read.{Read, read_of, next_at}

-- the tape of a run: its records' bytes, one behind another
abbrev pub tape_of : List Record → List ℕ
tape_of [] = []
tape_of (r ∷ rs) = bytes_of r ++ tape_of rs

-- a buffer after a run is written from a place on, each record into the part that follows the last
abbrev pub write_run : List ℕ → ℕ → List Record → List ℕ
write_run s at [] = s
write_run s at (r ∷ rs) = write_run (write_of s at r) (at + 16) rs

-- a buffer of n bytes takes each record of the run, whose values are 64-bit numbers
abbrev pub Takes : ℕ → ℕ → List Record → Type 0
Takes n at [] = Unit {0}
Takes n at (r ∷ rs) = (write_code n at r ≡ Ok tt) × (r.value < 18446744073709551616) × Takes n (at + 16) rs

-- the first k answers of a reader from a place on
abbrev pub answers : ℕ → List ℕ → ℕ → List Read
answers zero s at = []
answers (suc k) s at = read_of s at ∷ answers k s (next_at s at)

-- the answers that are a run from a place on, and then the end
abbrev pub found_all : ℕ → List Record → List Read
found_all at [] = Ok None ∷ []
found_all at (r ∷ rs) = Ok (Some (r, at + 16)) ∷ found_all (at + 16) rs
