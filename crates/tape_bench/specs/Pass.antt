-- What the timed loops do: a pass over a tape record by record, and a buffer filled record by record. Assumes nothing.
use Rattle.std.specs.Prelude.{ℕ, zero, suc, ◌+◌, ◌*◌, List, Some, None, Ok, Err}
use Rattle.std.specs.Int.Bits.{bit_xor}
use Rattle.record.specs.declared.Record.{Record}
use Rattle.tape_form.specs.Read.{Read, read_of, place_of}
use Rattle.tape_form.specs.Write.{write_of}
use Rattle.tape_bench.specs.declared.Pass.{Pass}

-- the value of the record that an answer found, else 0
abbrev pub value_of : Read → ℕ
value_of (Ok (Some x)) = x.0.value
value_of (Ok None) = 0
value_of (Err e) = 0

-- a turn of the reading loop: the place behind the record, and its value taken into the sum
abbrev pub turn_of : Pass → Read → Pass
turn_of p r = record { at = place_of p.at r; sum = bit_xor p.sum (value_of r) }

-- a pass of so many turns from place 0
abbrev pub passed : List ℕ → ℕ → Pass
passed s zero = record { at = 0; sum = 0 }
passed s (suc i) = turn_of (passed s i) (read_of s (passed s i).at)

-- the i-th record of the writing loop: an advance by i ticks
abbrev pub ticks : ℕ → Record
ticks i = record { op = 6; a = 0; b = 0; code = 0; running = 7; released = 0; value = i }

-- a buffer after so many records are written behind the first place
abbrev pub filled : List ℕ → ℕ → List ℕ
filled s zero = s
filled s (suc i) = write_of (filled s i) (16 * i + 16) (ticks i)
