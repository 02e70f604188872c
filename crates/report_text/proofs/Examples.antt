-- The three reports that docs/JUDGE.md shows, by computing. (That the text of a report is put as it is defined, the contracts say; what the labels are,
-- and which number stands behind which, is a definition, and these hold it to the page; and one of 14 numbers no two of which are alike, so that none may
-- stand for another.) Assumes nothing.
use Prim.Native.Nat.{ℕ}
use mathlib.Core.Path.{◌≡◌, refl}
use mathlib.Core.List.{List, ◌++◌}
use Rattle.kernel_checks.specs.declared.Command.{Command}
use Rattle.record_kept.specs.declared.Kept.{Kept}
use Rattle.decimal.specs.Decimal.{decimal, decimal_in}
use Rattle.text.specs.Words.{bytes}
use Rattle.text.specs.Commands.{line_of}
use Rattle.judge_verdict.specs.declared.Verdict.TheVariants.{Agrees, Differs, Refused}
use Rattle.report_text.specs.Report.{stands_at, command_text, answer_text, answers_text, difference_text, verdict_text, report_text}

abbrev says : ℕ → ℕ → ℕ → Kept
says code running released = record { code = code; running = record { 0 = running }; released = record { 0 = released } }

agreeing : report_text (record { seed = 1; verdict = Agrees 16 }) ≡ bytes "seed 1\nagrees: 16 command records\n"
unfolding report_text verdict_text decimal decimal_in
agreeing = refl

-- a report of a difference: the seed, the record's number, its command, and what is kept of the two answers
abbrev differs : ℕ → ℕ → Command → Kept → Kept → List ℕ
differs seed number command tape rules =
    report_text (record { seed = seed; verdict = Differs (record { number = number; command = command; tape = tape; rules = rules }) })

differing : differs 1 16 (record { op = 8; a = 1; b = 1; value = 0 }) (says 0 1 1) (says 0 3 1)
    ≡ bytes "seed 1\ndiffers at record 16, byte 256: closep 1 1 (op 8, a 1, b 1, value 0);"
    ++ bytes " tape: code 0, running 1, released 1; rules: code 0, running 3, released 1\n"
unfolding report_text verdict_text difference_text stands_at command_text answers_text answer_text line_of decimal decimal_in
differing = refl

unlike : differs 4294967296 20 (record { op = 8; a = 5; b = 2; value = 17 }) (says 6 11 1) (says 9 30 7)
    ≡ bytes "seed 4294967296\ndiffers at record 20, byte 320: closep 5 2 (op 8, a 5, b 2, value 17);"
    ++ bytes " tape: code 6, running 11, released 1; rules: code 9, running 30, released 7\n"
unfolding report_text verdict_text difference_text stands_at command_text answers_text answer_text line_of decimal decimal_in
unlike = refl

-- the value in the line, and operands that the line has no place for in the brackets alone
unused : command_text (record { op = 4; a = 3; b = 2; value = 17 }) ≡ bytes "delay 17 (op 4, a 3, b 2, value 17)"
unfolding command_text line_of decimal decimal_in
unused = refl

refusing : report_text (record { seed = 1; verdict = Refused (record { code = 15; number = 10; place = 160 }) })
    ≡ bytes "seed 1\nrefused 15 at record 10, byte 160\n"
unfolding report_text verdict_text stands_at decimal decimal_in
refusing = refl
