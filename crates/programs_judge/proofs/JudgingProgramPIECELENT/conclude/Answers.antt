-- Where nothing has failed all of the report is written (programs_flow/proofs/Turns).
use Rattle.std.proofs.Common.{length, sym, inr, ◌∙◌, subst}
use Rattle.judge_verdict.specs.declared.Judgement.{Judgement}
use Rattle.judging.specs.Pieces.{judged_in}
use Rattle.report_text.specs.Report.{report_text}
use Rattle.programs_flow.specs.Flow.{Took}
use Rattle.programs_flow.proofs.Turns.{took_text}
use Rattle.programs_judge.proofs.JudgingProgramPIECELENT.conclude.Goals as goal

pub returns : goal.returns
unfolding judged_in
returns g c =
    let read = c.args.read in
    let put = c.put_judgement-n in
    let w = c.write_whole in
    let took = took_text (report_text c.end.result) _ put.result read.state read w.result put.ensures.0 w.ensures.1 in
    inr (
      sym c.has_failed.ensures ∙ c.if-has_failed.false,
      subst (λ (j : Judgement). Took (length (report_text j)) read.state read w.result) c.end.ensures took,
    )
