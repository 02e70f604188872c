-- No report is longer than the room that is asked for it: a word has at most 7 bytes, a decimal at most 20. Assumes nothing.
use Prim.Native.Nat.{ℕ, zero, suc, ◌-◌, ◌≤◌}
use native.Mathlib.Omega.{arith}
use mathlib.Core.Bool.{Bool, true, false}
use mathlib.Core.Path.{◌≡◌, refl}
use mathlib.Core.List.{List, [], ◌∷◌}
use borrow.Author.Tests.{leb-true}
use lib.Dec.{leb}
use lib.ListN.{length, get_or, length-append}
use Rattle.rules.specs.Line.{every}
use Rattle.rules.proofs.Tests.{both_true}
use Rattle.kernel_checks.specs.declared.Command.{Command}
use Rattle.record_kept.specs.declared.Kept.{Kept}
use Rattle.decimal.proofs.BothWays.{decimal_most}
use Rattle.text.specs.Commands.{words, operand_text, uses_a, uses_b, uses_value, line_of}
use Rattle.judge_verdict.specs.declared.Difference.{Difference}
use Rattle.judge_verdict.specs.declared.Verdict.{Verdict}
use Rattle.judge_verdict.specs.declared.Verdict.TheVariants.{Agrees, Differs, Refused}
use Rattle.judge_verdict.specs.declared.Judgement.{Judgement}
use Rattle.judge_verdict.specs.Behind.{place_of}
use Rattle.report_text.specs.Report.{stands_at, line_text, command_text, answer_text, answers_text, difference_text, verdict_text, report_text}
use Rattle.report_text.specs.Report.{report_room}

-- ---- the command's line

one_short : (ws : List (List ℕ)) (k : ℕ) → every (λ w. leb (length w) 7) ws ≡ true → length (get_or ws k []) ≤ 7
one_short [] k e = omega arith
one_short (w ∷ ws) zero e = leb-true (length w) 7 (both_true (leb (length w) 7) (every (λ w. leb (length w) 7) ws) e).0
one_short (w ∷ ws) (suc k) e = one_short ws k (both_true (leb (length w) 7) (every (λ w. leb (length w) 7) ws) e).1

word_short : (k : ℕ) → length (get_or words k []) ≤ 7
word_short k = one_short words k refl

operand_short : (used : Bool) (n : ℕ) → length (operand_text used n) ≤ 21
operand_short true n = omega (arith, decimal_most n)
operand_short false n = omega arith

line_short : (c : Command) → length (line_text c) ≤ 70
unfolding line_of
line_short c =
    simp length-append
    (omega (
      arith,
      word_short (c.op - 1),
      operand_short (uses_a c.op) c.a,
      operand_short (uses_b c.op) c.b,
      operand_short (uses_value c.op)
          c.value,
    ))

-- ---- the parts of a report, each as the code has room for it

command_short : (c : Command) → length (command_text c) ≤ 172
unfolding command_text
command_short c =
    simp length-append
    (omega (arith, line_short c, decimal_most c.op, decimal_most c.a, decimal_most c.b, decimal_most c.value))

answer_short : (a : Kept) → length (answer_text a) ≤ 86
unfolding answer_text
answer_short a = simp length-append (omega (arith, decimal_most a.code, decimal_most a.running.0, decimal_most a.released.0))

answers_short : (tape rules : Kept) → length (answers_text tape rules) ≤ 189
unfolding answers_text
answers_short tape rules = simp length-append (omega (arith, answer_short tape, answer_short rules))

at_short : (n place : ℕ) → length (stands_at n place) ≤ 58
unfolding stands_at
at_short n place = simp length-append (omega (arith, decimal_most n, decimal_most place))

difference_short : (d : Difference) → length (difference_text d) ≤ 428
unfolding difference_text
difference_short d =
    simp length-append
    (omega (arith, at_short d.number (place_of d.number), command_short d.command, answers_short d.tape d.rules))

verdict_short : (v : Verdict) → length (verdict_text v) ≤ 428
unfolding verdict_text
verdict_short (Agrees k) = simp length-append (omega (arith, decimal_most k))
verdict_short (Differs d) = difference_short d
verdict_short (Refused r) = simp length-append (omega (arith, decimal_most r.code, at_short r.number r.place))

pub report_short : (j : Judgement) → length (report_text j) ≤ report_room
unfolding report_text
report_short j = simp length-append (omega (arith, decimal_most j.seed, verdict_short j.verdict))
