-- There is room for what a piece prints (show_text/proofs/Rooms).
use Rattle.std.proofs.Common.{ℕ, ◌*◌, suc, List, length, take, ap, sym, ◌∙◌}
use Rattle.show_text.specs.declared.Fed.{Fed}
use Rattle.show_text.specs.Show.{fed, fed_out}
use Rattle.programs_flow.proofs.Rooms.{with_room, front_fits, front_same}
use Rattle.show_text.proofs.Rooms.{show_roomy}
use Rattle.programs_show.proofs.ShowProgramPIECELENT.feed.Goals as goal

pub returns : goal.returns
returns c =
    let a = c.args in
    let f = c.feed-f in
    let only = a.self.now.only in
    let p = take a.n a.piece.now in
    let same = front_same a.piece.now a.n 15 c.min.result c.told-piece c.min.ensures in
    let o = show_roomy p a.out.now (front_fits a.piece.now a.n 15 c.told-piece) (sym c.told-out) in
    let e = f.ensures.0 ∙ ap (λ (q : List ℕ). fed only a.w q a.out.now) same ∙ with_room (4096 * suc (length p)) a.out.now _ _ o in
    let l = f.ensures.1 ∙ ap (λ (q : List ℕ). fed_out only a.w q a.out.now) same ∙ with_room (4096 * suc (length p)) a.out.now _ _ o in
    (ap (λ (x : Fed). x.showing) e, (ap (λ (x : Fed). x.at) e, l), f.ensures.2, f.auto.out ∙ c.told-out)
