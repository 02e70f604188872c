-- There is room for the header (show_text/proofs/Rooms).
use Rattle.std.proofs.Common.{arith, ◌∙◌}
use Rattle.text.specs.Printed.{walk_header, header_room}
use Rattle.programs_flow.proofs.Rooms.{laid_roomy}
use Rattle.programs_show.proofs.ShowProgramPIECELENT.put_header.Goals as goal

pub returns : goal.returns
returns c =
    let f = c.header in
    let put = laid_roomy header_room walk_header c.args.out.now _ _ (omega (arith, c.told-out)) f.ensures.0 f.ensures.1 in
    (put, f.ensures.2, f.auto.out ∙ c.told-out)
