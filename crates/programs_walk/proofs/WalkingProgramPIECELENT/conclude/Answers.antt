-- Where nothing has failed all of the last line is written (programs_flow/proofs/Turns).
use Rattle.std.proofs.Common.{sym, inr, ◌∙◌}
use Rattle.session_walk_text.specs.Walk.{last_text, printed}
use Rattle.programs_flow.proofs.Turns.{took_text}
use Rattle.programs_walk.proofs.WalkingProgramPIECELENT.conclude.Goals as goal

pub returns : goal.returns
unfolding printed
returns g c =
    let read = c.args.read in
    let put = c.put_last-last in
    inr (
      sym c.has_failed.ensures ∙ c.if-has_failed.false,
      took_text (last_text _) _ put.result read.state read c.write_whole.result put.ensures.0 c.write_whole.ensures.1,
    )
