-- The record writer of document 01: its checks in their order, and what it leaves in the buffer. Assumes nothing.
use Rattle.std.specs.Prelude.{ℕ, ◌+◌, ◌%◌, ◌≡◌, List, ◌++◌, cond, not, length, take, drop, ltb, eqb}
use Rattle.std.specs.Prelude.{Result, Ok, Err, is_ok}
use Rattle.std.specs.Result.{result_and}
use Rattle.rules.specs.declared.Refusal.{Refusal}
use Rattle.rules.specs.declared.Refusal.TheVariants.{Record as NoRecord, Room}
use Rattle.record.specs.declared.Record.{Record}
use Rattle.record.specs.Form.{bytes_of}
use Rattle.record.specs.Fault.{fault_of}

-- The writer's checks over a buffer of n bytes, in their order: 15 (a place no multiple of 16, fields that are no
-- record there), 17, 16 (Room).
unfoldable pub write_code : ℕ → ℕ → Record → Result Unit Refusal
write_code n at r =
    cond (not (eqb (at % 16) 0)) (Err NoRecord) (result_and (fault_of at r) (cond (ltb n (at + 16)) (Err Room) (Ok tt)))

-- What a write leaves: the record's 16 bytes from its place on, earlier and later bytes as they were; a refusal leaves
-- all.
unfoldable pub write_of : List ℕ → ℕ → Record → List ℕ
write_of s at r = cond (is_ok (write_code (length s) at r)) (take at s ++ (bytes_of r ++ drop (at + 16) s)) s

-- the writer's contract: its answer, and the buffer's contents after it
abbrev pub Written : List ℕ → ℕ → Record → Result Unit Refusal → List ℕ → Type 0
Written s at r c after = (c ≡ write_code (length s) at r) × (after ≡ write_of s at r)
