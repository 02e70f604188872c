-- What is lent has room for every report.
use Rattle.std.proofs.Common.{◌+◌, arith, ap, ◌∙◌, length}
use Rattle.std.proofs.Math.Seq.{sets, length-sets}
use Rattle.report_text.specs.Report.{report_text}
use Rattle.report_text.proofs.Bounds.{report_short}
use Rattle.decimal.proofs.Stores.{in_front}
use Rattle.programs_flow.proofs.Rooms.{with_room, put_front}
use Rattle.programs_judge.proofs.put_judgement.Goals as goal

pub returns : goal.returns
returns c =
    let a = c.args in
    let pre = c.requires in
    let f = c.put_report in
    let t = report_text a.j in
    let short = report_short a.j in
    let e = f.ensures.0 ∙ with_room (0 + 512) a.out.now (0 + length t) 0 (omega (arith, pre)) in
    let l = f.ensures.1 ∙ with_room (0 + 512) a.out.now (sets a.out.now 0 t) a.out.now (omega (arith, pre)) in
    let n = ap length l ∙ length-sets a.out.now 0 t in
    (put_front _ _ _ _ l (omega (arith, e)) (omega (arith, e, n, pre, short)), in_front _ _ (omega (arith, e, n, pre, short)))
