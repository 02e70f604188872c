-- What every place of every byte string gets.
--
-- * A reader answers exactly one of: a record, the end, 15, 17. (Four different values; `Stands` of Reading says what holds at each.)
-- * The part that it hands back is a stretch of the tape: 16 bytes or none, from where the contract says. Rules out: a part made up or copied,
--   a part past the end.
-- * The place moves behind a record and is kept else.
-- Assumes nothing.
use mathlib.Core.Path.{◌≡◌, refl}
use mathlib.Core.List.{List}
use Prim.Native.Nat.{ℕ, ◌+◌, ◌≤◌}
use native.Mathlib.Omega.{arith}
use lib.ListN.{length, take, drop, length-drop}
use lib.Seq.{length-take-le}
use Rattle.std.specs.Prelude.{Some, None, Ok, Err}
use Rattle.rules.specs.declared.Refusal.TheVariants.{Record as NoRecord, Seed}
use Rattle.record.specs.declared.Record.{Record}
use Rattle.tape_form.specs.Read.{Read, read_of, size_of, start_of, place_of, part_at, start_at, next_at}
use Rattle.tape_form.proofs.Reading.{Stands, stands, found, end, no_record, no_seed}

-- the four answers
pub data OneOfFour : Read → Type 0 where
  a_record : (r : Record) (next : ℕ) → OneOfFour (Ok (Some (r, next)))
  the_end : OneOfFour (Ok None)
  fifteen : OneOfFour (Err NoRecord)
  seventeen : OneOfFour (Err Seed)

-- Every place of every byte string gets one of the four.
pub one_of_four : (s : List ℕ) (at : ℕ) → OneOfFour (read_of s at)
one_of_four s at = go (stands s at)
  where
    go : {x : Read} → Stands s at x → OneOfFour x
    go (found w l f) = a_record _ _
    go (end w l f) = the_end
    go no_record = fifteen
    go (no_seed a l) = seventeen

-- The part is of the tape: so many bytes from its start on, and the tape has them.
pub part_of_tape : (s : List ℕ) (at : ℕ) → (part_at s at ≡ take (length (part_at s at)) (drop (start_at s at) s))
    × (start_at s at + length (part_at s at) ≤ length s)
unfolding part_at start_at
part_of_tape s at = go (stands s at)
  where
    go : {x : Read} → Stands s at x → (take (size_of x) (drop at s) ≡ take (length (take (size_of x) (drop at s))) (drop (start_of at x) s))
        × (start_of at x + length (take (size_of x) (drop at s)) ≤ length s)
    go (found w l f) = let n : length (take 16 (drop at s)) ≡ 16 = length-take-le 16 (drop at s) (omega (arith, length-drop at s)) in (rw n, rw n l)
    go (end w l f) = (refl, omega arith)
    go no_record = (refl, omega arith)
    go (no_seed a l) = (refl, omega arith)

-- The place is kept unless there is a record, and then is 16 further.
pub place_moves : (s : List ℕ) (at : ℕ) → next_at s at ≡ at + size_of (read_of s at)
unfolding next_at
place_moves s at = go (stands s at)
  where
    go : {x : Read} → Stands s at x → place_of at x ≡ at + size_of x
    go (found w l f) = refl
    go (end w l f) = omega arith
    go no_record = omega arith
    go (no_seed a l) = omega arith
