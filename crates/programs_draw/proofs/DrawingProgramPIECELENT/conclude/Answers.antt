-- Behind a failure nothing more is written, else the end's text and the draws (programs_flow/proofs/Turns).
use Rattle.std.proofs.Common.{sym, inr, ◌∙◌, subst}
use Rattle.session_stage.specs.declared.DrawRun.{DrawRun}
use Rattle.session_draw.specs.Draw.{end_text, some_text, printed}
use Rattle.programs_flow.specs.Loops.{Concluded}
use Rattle.programs_flow.proofs.Turns.{took_text, then_more}
use Rattle.programs_draw.proofs.DrawingProgramPIECELENT.conclude.Goals as goal

pub returns : goal.returns
unfolding printed
returns g c =
    let read = c.args.read in
    let on = sym c.has_failed.ensures ∙ c.if-has_failed.false in
    let put = c.put_end-f in
    let w = c.write_whole-ended in
    let took = took_text (end_text _) _ put.result.at read.state read w.result put.ensures.1 w.ensures.1 in
    let all = c.all_draws in
    inr (
      on,
      then_more (end_text _) _ read w.result all.result on took
          (subst (λ (d : DrawRun). Concluded (some_text d.left d) w.result all.result) put.ensures.0 all.ensures),
    )
