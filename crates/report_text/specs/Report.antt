-- The two lines that the program judge prints of a tape: its seed, and the verdict.
use Rattle.std.specs.Prelude.{ℕ, List, ◌++◌}
use Prim.Native.String.{String}
use Rattle.kernel_checks.specs.declared.Command.{Command}
use Rattle.record_kept.specs.declared.Kept.{Kept}
use Rattle.decimal.specs.Decimal.{decimal}
use Rattle.text.specs.Words.{bytes}
use Rattle.text.specs.Commands.{line_of}
use Rattle.judge_verdict.specs.declared.Difference.{Difference}
use Rattle.judge_verdict.specs.declared.Verdict.{Verdict}
use Rattle.judge_verdict.specs.declared.Verdict.TheVariants.{Agrees, Differs, Refused}
use Rattle.judge_verdict.specs.declared.Judgement.{Judgement}
use Rattle.judge_verdict.specs.Behind.{place_of}

-- a text, and a number behind it
abbrev pub named : String → ℕ → List ℕ
named text n = bytes text ++ decimal n

-- at record N, byte P
unfoldable pub stands_at : ℕ → ℕ → List ℕ
stands_at n place = named " at record " n ++ named ", byte " place

-- TEXT: the command's line, as document 01 has it
abbrev pub line_text : Command → List ℕ
line_text c = line_of (record { code = 0; op = c.op; a = c.a; b = c.b; value = c.value })

-- TEXT (op O, a A, b B, value V)
unfoldable pub command_text : Command → List ℕ
command_text c =
    line_text c ++ named " (op " c.op ++ named ", a " c.a ++ named ", b " c.b ++ named ", value " c.value
    ++ bytes ")"

-- code C, running R, released S
unfoldable pub answer_text : Kept → List ℕ
answer_text a = named "code " a.code ++ named ", running " a.running.0 ++ named ", released " a.released.0

-- ; tape: code C, running R, released S; rules: code C, running R, released S
unfoldable pub answers_text : Kept → Kept → List ℕ
answers_text tape rules = bytes "; tape: " ++ answer_text tape ++ bytes "; rules: " ++ answer_text rules

-- differs at record N, byte P: TEXT (..); tape: ..; rules: ..
unfoldable pub difference_text : Difference → List ℕ
difference_text d =
    bytes "differs" ++ stands_at d.number (place_of d.number) ++ bytes ": " ++ command_text d.command
    ++ answers_text d.tape d.rules

-- line 2: that, or agrees: K command records, or refused C at record N, byte P
unfoldable pub verdict_text : Verdict → List ℕ
verdict_text (Agrees k) = named "agrees: " k ++ bytes " command records"
verdict_text (Differs d) = difference_text d
verdict_text (Refused r) = named "refused " r.code ++ stands_at r.number r.place

-- line 1, seed N, and line 2
unfoldable pub report_text : Judgement → List ℕ
report_text j = named "seed " j.seed ++ bytes "\n" ++ verdict_text j.verdict ++ bytes "\n"

-- the room that a report asks for: no less than it ever needs
abbrev pub report_room : ℕ
report_room = 512
