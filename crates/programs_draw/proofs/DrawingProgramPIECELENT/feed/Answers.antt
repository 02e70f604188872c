-- There is room for what a piece prints (proofs/Rooms).
use Rattle.std.proofs.Common.{ℕ, ◌*◌, suc, List, length, take, ap, sym, ◌∙◌}
use Rattle.session_draw.specs.declared.Read.{Read}
use Rattle.session_draw.specs.Draw.{fed, fed_out}
use Rattle.programs_flow.proofs.Rooms.{with_room, front_fits, front_same}
use Rattle.programs_draw.proofs.Rooms.{draw_roomy}
use Rattle.programs_draw.proofs.DrawingProgramPIECELENT.feed.Goals as goal

pub returns : goal.returns
returns c =
    let a = c.args in
    let f = c.feed-f in
    let p = take a.n a.piece.now in
    let same = front_same a.piece.now a.n 384 c.min.result c.told-piece c.min.ensures in
    let o = draw_roomy p a.out.now (front_fits a.piece.now a.n 384 c.told-piece) (sym c.told-out) in
    let e = f.ensures.0 ∙ ap (λ (q : List ℕ). fed a.r q a.out.now) same ∙ with_room (192 * suc (length p)) a.out.now _ _ o in
    let l = f.ensures.1 ∙ ap (λ (q : List ℕ). fed_out a.r q a.out.now) same ∙ with_room (192 * suc (length p)) a.out.now _ _ o in
    (ap (λ (x : Read). x.reader) e, (ap (λ (x : Read). x.at) e, l), f.ensures.2, f.auto.out ∙ c.told-out)
