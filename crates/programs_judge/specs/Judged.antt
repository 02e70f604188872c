-- What judge does, as far as a contract can say it (crate programs_flow, specs/Loops), and what it answers.
use Rattle.std.specs.Prelude.{ℕ, Bool, true, ◌≡◌, List, [], ◌⊎◌, length}
use Rattle.programs_flow.specs.declared.Went.{Went}
use Rattle.programs_flow.specs.Flow.{has_failed}
use Rattle.programs_flow.specs.Loops.{Text, NoneEmpty, behind, Over}
use Rattle.judging.specs.declared.Judge.{Judge}
use Rattle.judge_verdict.specs.declared.Judgement.{Judgement}
use Rattle.judge_verdict.specs.Verdict.{status_of as status-on}
use Rattle.judge_verdict.specs.Behind.{to_come}
use Rattle.judging.specs.Pieces.{at_first, fed, judged_in}
use Rattle.report_text.specs.Report.{report_text}

-- Judge prints nothing for a piece.
abbrev pub silent : Text Judge
silent j p = []

-- Whether the judge still reads: no verdict is there.
abbrev pub judge_wants : Judge → Bool
judge_wants j = to_come j.run.verdict

-- A whole run of judge: j is the judgement of pieces, none of them empty; and a read or a write failed, or as many
-- bytes were taken as the report of j has.
abbrev pub Judged : Judgement → Went → Type 0
Judged j went =
    (ps : List (List ℕ)) × NoneEmpty ps × (j ≡ judged_in at_first ps)
    × ((has_failed went.state ≡ true)
    ⊎ ((went.sent ≡ length (report_text j)) × Over judge_wants (behind fed at_first ps) ps went))

-- Judge: the status of the verdict on some pieces, or 3.
abbrev pub JudgedOrFailed : ℕ → Type 0
JudgedOrFailed r = ((ps : List (List ℕ)) × (r ≡ status-on (judged_in at_first ps).verdict)) ⊎ (r ≡ 3)
