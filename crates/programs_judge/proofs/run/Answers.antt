-- 3 where the work failed, else the status of the verdict.
use Rattle.std.proofs.Common.{Bool, cond, ap, sym, ◌∙◌, inl, inr}
use Rattle.judge_verdict.specs.declared.Judgement.{Judgement}
use Rattle.judge_verdict.specs.Verdict.{status_of as status-on}
use Rattle.programs_judge.proofs.run.Goals as goal

pub returns-then-has_failed : goal.returns-then-has_failed
returns-then-has_failed g c = inr (c.status.ensures ∙ ap (λ (b : Bool). cond b 3 0) (sym c.has_failed.ensures ∙ c.if-has_failed.true))

pub returns : goal.returns
returns g c =
    let w = c.work.ensures in
    inl (w.0, c.status-2.ensures ∙ ap (λ (x : Judgement). status-on x.verdict) w.2)
