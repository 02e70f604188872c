-- 3 where the work failed, else by the lines that were seen (proofs/Whole).
use Rattle.std.proofs.Common.{Bool, cond, ap, sym, ◌∙◌, inr}
use Rattle.programs_show.proofs.run.Goals as goal

pub returns-then-has_failed : goal.returns-then-has_failed
returns-then-has_failed g c = inr (c.status.ensures ∙ ap (λ (b : Bool). cond b 3 0) (sym c.has_failed.ensures ∙ c.if-has_failed.true))
