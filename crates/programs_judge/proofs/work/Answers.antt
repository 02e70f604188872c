-- The judgement is of the pieces that were read, and its report is all that was written (proofs/Judgement).
use Rattle.std.proofs.Common.{ap, sym, ◌∙◌, inl, inr, ⊎_elim, length}
use Rattle.judging.specs.Pieces.{at_first, ended}
use Rattle.judge_verdict.specs.declared.Judgement.{Judgement}
use Rattle.report_text.specs.Report.{report_text}
use Rattle.programs_judge.proofs.Judgement.{judged_behind}
use Rattle.programs_judge.proofs.work.Goals as goal

pub returns : goal.returns
returns g c =
    let r = c.over_pieces.ensures.ran in
    let j = c.end.ensures ∙ ap ended r.2 ∙ sym (judged_behind r.0 at_first) in
    (r.0, r.1, j, ⊎_elim inl (λ x. inr (x.0 ∙ ap (λ (k : Judgement). length (report_text k)) (sym j), x.1)) r.3)
