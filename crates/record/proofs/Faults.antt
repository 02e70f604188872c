-- Laws of the judgement of 16 bytes at a place: it has three answers, a record's own bytes have its own, and bytes with no fault have the mark.
-- Assumes nothing.
use mathlib.Core.Path.{◌≡◌, refl, ap, ◌∙◌}
use mathlib.Core.List.{List}
use mathlib.Core.Bool.{Bool, true, false, cond}
use Prim.Native.Nat.{ℕ, ◌<◌}
use lib.Dec.{eqb}
use borrow.Author.Tests.{eqb-true}
use Rattle.std.specs.Prelude.{Result, Ok, Err}
use Rattle.rules.specs.declared.Refusal.{Refusal}
use Rattle.rules.specs.declared.Refusal.TheVariants.{Record as NoRecord, Seed}
use Rattle.record.specs.Form.{bytes_of, record_of, marked, header_fields, command_fields, is_seed}
use Rattle.record.specs.Fault.{fault_of}
use Rattle.record.specs.declared.Record.{Record}
use Rattle.record.proofs.RoundTrip.{fields_back}

-- 16 bytes by what the writer answers to their fields, and 15 for a wrong mark
abbrev pub bytes_fault : ℕ → List ℕ → Result Unit Refusal
bytes_fault at p = cond (marked p) (fault_of at (record_of p)) (Err NoRecord)

-- that answer by its tests: place 0, the mark, a header's fields, a seed, a command record's fields
abbrev pub answer : Bool → Bool → Bool → Bool → Bool → Result Unit Refusal
answer z m h v k = cond m (cond z (cond h (cond v (Ok tt) (Err Seed)) (Err NoRecord)) (cond k (Ok tt) (Err NoRecord))) (Err NoRecord)

-- the answers that fields or bytes get at a place
pub data Answer (at : ℕ) : Result Unit Refusal → Type 0 where
  right : Answer at (Ok tt)
  wrong : Answer at (Err NoRecord)
  unseeded : at ≡ 0 → Answer at (Err Seed)

pub answered : (at : ℕ) (p : List ℕ) → Answer at (bytes_fault at p)
unfolding fault_of
answered at p = go (eqb at 0) refl (marked p) (header_fields (record_of p)) (is_seed (record_of p).value) (command_fields (record_of p))
  where
    go : (z : Bool) → eqb at 0 ≡ z → (m h v k : Bool) → Answer at (answer z m h v k)
    go true e true true true k = right
    go true e true true false k = unseeded (eqb-true at 0 e)
    go true e true false v k = wrong
    go true e false h v k = wrong
    go false e true h v true = right
    go false e true h v false = wrong
    go false e false h v k = wrong

-- bytes without the mark, and with it
pub unmarked_fault : (at : ℕ) (p : List ℕ) → marked p ≡ false → bytes_fault at p ≡ Err NoRecord
unmarked_fault at p m = rw m

pub marked_fault : (at : ℕ) (p : List ℕ) → marked p ≡ true → bytes_fault at p ≡ fault_of at (record_of p)
marked_fault at p m = rw m

own_mark : (at : ℕ) (r : Record) → bytes_fault at (bytes_of r) ≡ fault_of at (record_of (bytes_of r))
unfolding bytes_of
own_mark at r = refl

-- a record's own bytes have its own answer
pub own_fault : (at : ℕ) (r : Record) → r.value < 18446744073709551616 → bytes_fault at (bytes_of r) ≡ fault_of at r
own_fault at r h = own_mark at r ∙ ap (fault_of at) (fields_back r h)

-- the mark of bytes that have no fault
pub unfaulted : (at : ℕ) (p : List ℕ) → bytes_fault at p ≡ Ok tt → (marked p ≡ true) × (fault_of at (record_of p) ≡ Ok tt)
unfaulted at p = go (marked p)
  where
    go : (m : Bool) → cond m (fault_of at (record_of p)) (Err NoRecord) ≡ Ok tt → (m ≡ true) × (fault_of at (record_of p) ≡ Ok tt)
    go true e = (refl, e)
    go false e = absurd cc
