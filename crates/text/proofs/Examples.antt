-- Document 01's own texts, and those that it and its readings refuse, by computing. Assumes nothing.
use Prim.Native.Nat.{ℕ}
use mathlib.Core.Path.{◌≡◌, refl}
use mathlib.Core.List.{[], ◌∷◌}
use Rattle.text.specs.declared.Spoken.{Spoken}
use Rattle.decimal.specs.Decimal.{shortest, value_from, number_of, decimal, decimal_in}
use Rattle.text.specs.Words.{bytes, before, onward, same}
use Rattle.text.specs.Commands.{named_from, op_named, decimal_next, operand, operand_unless, spoken_by, command_of, no_command}
use Rattle.text.specs.FirstLine.{seed_of, text_next, decimals_next, settings_of, judged, refused_with, first_line_of}
use Rattle.text.specs.Printed.{answer_fields, walk_line, draw_line}
use Rattle.text.specs.Lines.{ended, begins, lines}

abbrev spoken : ℕ → ℕ → ℕ → ℕ → Spoken
spoken op a b value = record { code = 0; op = op; a = a; b = b; value = value }

-- lines of the walk, and what has the form and is Range; done with its barrier
right_lines : (command_of (bytes "create 1 3") ≡ spoken 1 1 3 0) × (command_of (bytes "start") ≡ spoken 3 0 0 0)
    × (command_of (bytes "delay 18446744073709551615") ≡ spoken 4 0 0 18446744073709551615) × (command_of (bytes "closep 1 1") ≡ spoken 8 1 1 0)
    × (command_of (bytes "create 255 3") ≡ spoken 1 255 3 0) × (command_of (bytes "entry 1 2") ≡ spoken 10 1 2 0)
    × (command_of (bytes "done 1 0") ≡ spoken 11 1 0 0) × (command_of (bytes "done 1 1") ≡ spoken 11 1 1 0) × (command_of (bytes "done 1 2") ≡ spoken 11 1 2 0)
unfolding command_of spoken_by op_named named_from same before onward operand_unless operand decimal_next number_of shortest value_from
right_lines = (refl, refl, refl, refl, refl, refl, refl, refl, refl)

-- what has not the form: done without its barrier, too
wrong_lines : (command_of [] ≡ no_command) × (command_of (bytes "start 0") ≡ no_command) × (command_of (bytes "open 01") ≡ no_command)
    × (command_of (bytes "open 256") ≡ no_command) × (command_of (bytes "delay 18446744073709551616") ≡ no_command) ×
    (command_of (bytes "open  1") ≡ no_command)
    × (command_of (bytes "open 1 ") ≡ no_command) × (command_of (bytes " wake") ≡ no_command) × (command_of (bytes "wake\r") ≡ no_command) ×
    (command_of (bytes "Wake") ≡ no_command)
    × (command_of (bytes "done 1") ≡ no_command) × (command_of (bytes "done 1 0 0") ≡ no_command)
unfolding command_of spoken_by op_named named_from same before onward operand_unless operand decimal_next number_of shortest value_from
wrong_lines = (refl, refl, refl, refl, refl, refl, refl, refl, refl, refl, refl, refl)

-- "-1647531835" is refused; 2647435461 is its unsigned reading
seeds : (seed_of (bytes "-1647531835") ≡ record { code = 17; seed = 0 }) × (seed_of (bytes "2647435461") ≡ record { code = 0; seed = 2647435461 })
    × (seed_of (bytes "0") ≡ record { code = 17; seed = 0 }) × (seed_of (bytes "4294967296") ≡ record { code = 17; seed = 0 })
unfolding seed_of number_of shortest value_from
seeds = (refl, refl, refl, refl)

-- the paper's first line of draw, and one for each refusal, the earlier number where two apply
first_lines : (first_line_of (bytes "seed 1 span 100 weights 10 10 10 10 10 10 10 10 count 1")
    ≡ record { code = 0; seed = 1; span = 100; weights = 10 ∷ 10 ∷ 10 ∷ 10 ∷ 10 ∷ 10 ∷ 10 ∷ 10 ∷ []; count = 1 })
    × (first_line_of (bytes "seed 0 span 0 weights 10 10 10 10 10 10 10 10 count 0") ≡ refused_with 14)
    × (first_line_of (bytes "seed  span 0 weights 10 10 10 10 10 10 10 10 count 1") ≡ refused_with 14)
    × (first_line_of (bytes "seed -1 span 0 weights 10 10 10 10 10 10 10 10 count 1") ≡ refused_with 17)
    × (first_line_of (bytes "seed 1 span 100 weights 10 0 10 10 10 10 10 10 count 1") ≡ refused_with 18)
unfolding first_line_of settings_of seed_of text_next decimals_next decimal_next number_of shortest value_from before onward same judged refused_with
first_lines = (refl, refl, refl, refl, refl)

-- the last line of the walk, and the drawn delay 39; and of nine numbers no two of which are alike
printed : (walk_line (record { n = 16; op = 8; a = 1; b = 1; value = 0; code = 0; running = 3; released = 1; clock = 10 }) ≡ bytes "16 8 0 3 1 10\n")
    × (draw_line (record { n = 6; op = 4; a = 0; b = 0; value = 39; code = 0; running = 1; released = 0; clock = 0 }) ≡ bytes "6 4 0 0 39 0 1 0 0\n")
    × (walk_line (record { n = 21; op = 8; a = 3; b = 1; value = 70; code = 9; running = 14; released = 5; clock = 600 }) ≡ bytes "21 8 9 14 5 600\n")
    × (draw_line (record { n = 21; op = 8; a = 3; b = 1; value = 70; code = 9; running = 14; released = 5; clock = 600 }) ≡ bytes "21 8 3 1 70 9 14 5 600\n")
unfolding walk_line draw_line answer_fields decimal decimal_in
printed = (refl, refl, refl, refl)

-- a last line without a line end counts; a line end alone is one empty line; no byte is no line
split : (lines (bytes "wake\n\nopen 1") ≡ bytes "wake" ∷ [] ∷ bytes "open 1" ∷ []) × (lines (bytes "\n") ≡ [] ∷ []) × (lines [] ≡ [])
unfolding lines ended begins
split = (refl, refl, refl)
