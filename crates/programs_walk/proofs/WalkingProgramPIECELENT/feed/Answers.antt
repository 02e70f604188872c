-- There is room for what a piece prints (session_walk_text/proofs/Rooms).
use Rattle.std.proofs.Common.{ℕ, ◌*◌, suc, List, length, take, ap, sym, ◌∙◌}
use Rattle.session_walk_text.specs.declared.Fed.{Fed}
use Rattle.session_walk_text.specs.Walk.{fed, fed_out}
use Rattle.programs_flow.proofs.Rooms.{with_room, front_fits, front_same}
use Rattle.session_walk_text.proofs.Rooms.{walk_roomy}
use Rattle.programs_walk.proofs.WalkingProgramPIECELENT.feed.Goals as goal

pub returns : goal.returns
returns c =
    let a = c.args in
    let f = c.feed-f in
    let p = take a.n a.piece.now in
    let same = front_same a.piece.now a.n 640 c.min.result c.told-piece c.min.ensures in
    let o = walk_roomy p a.out.now (front_fits a.piece.now a.n 640 c.told-piece) (sym c.told-out) in
    let e = f.ensures.0 ∙ ap (λ (q : List ℕ). fed a.w q a.out.now) same ∙ with_room (128 * suc (length p)) a.out.now _ _ o in
    let l = f.ensures.1 ∙ ap (λ (q : List ℕ). fed_out a.w q a.out.now) same ∙ with_room (128 * suc (length p)) a.out.now _ _ o in
    (ap (λ (x : Fed). x.walk) e, (ap (λ (x : Fed). x.at) e, l), f.ensures.2, f.auto.out ∙ c.told-out)
