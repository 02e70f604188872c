-- What is lent has room for a lot of draws (proofs/Rooms).
use Rattle.std.proofs.Common.{◌*◌, arith, ap, ◌∙◌}
use Rattle.session_draw.specs.declared.Printed.{Printed}
use Rattle.programs_flow.proofs.Rooms.{with_room, put_front}
use Rattle.programs_draw.proofs.put_draws.Goals as goal

pub returns : goal.returns
returns c =
    let a = c.args in
    let f = c.draw_some in
    let e = f.ensures.0 ∙ with_room (192 * 384) a.out.now _ _ (omega (arith, c.requires)) in
    let l = f.ensures.1 ∙ with_room (192 * 384) a.out.now _ _ (omega (arith, c.requires)) in
    (ap (λ (x : Printed). x.run) e, put_front _ _ _ _ l (ap (λ (x : Printed). x.at) e) f.ensures.2.0, f.ensures.2)
