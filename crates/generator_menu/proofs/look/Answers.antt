-- `generator_menu::look` meets its contract, by what its callees ensure of the tables. Assumes nothing.
use Prim.Native.Nat.{ℕ, ◌+◌, ◌^◌}
use mathlib.Core.Path.{◌≡◌, refl, ap}
use mathlib.Core.Bool.{Bool}
use mathlib.Core.List.{List}
use lib.Dec.{ltb}
use lib.ListN.{length}
use Rattle.rules.specs.Line.{at}
use Rattle.kernel_line.specs.declared.TaskID.{TaskID}
use Rattle.kernel_ready.specs.Ready.{runner_in}
use Rattle.generator_draws.specs.Menu.{sift, objects}
use Rattle.generator_menu.specs.Tables.{eligible_in, eligibles_in, seen_by, sight_in}
use Rattle.generator_menu.proofs.look.Goals as goal

spelled : (base ready held way ceiling : List ℕ) (clock span : ℕ)
    → let r = runner_in ready in
    seen_by r (at held r) (at way r) (at base r) (length (eligibles_in base ready held ceiling)) (ltb (clock + span) (2 ^ 64))
    ≡ sight_in base ready held way ceiling clock span
unfolding sight_in
spelled base ready held way ceiling clock span = refl

-- The same, of what each call answered.
looked : (base ready held way ceiling : List ℕ) (clock span runner level hand how count : ℕ) (room : Bool)
    → runner ≡ runner_in ready → level ≡ at base runner → hand ≡ at held runner → how ≡ at way runner
    → count ≡ length (sift (eligible_in ceiling held level) objects) → room ≡ ltb (clock + span) (2 ^ 64)
    → seen_by runner hand how level count room ≡ sight_in base ready held way ceiling clock span
looked base ready held way ceiling clock span runner level hand how count room e1 e2 e3 e4 e5 e6 =
    rw (e6, e5, e4, e3, e2, e1) (spelled base ready held way ceiling clock span)

pub returns : goal.returns
returns c =
    let t = c in
    let r = t in
    let a = r.args in
    looked a.base.now a.ready.now a.held.now a.way.now a.ceiling a.clock a.span _ _ _ _ _ _
    (ap (λ (x : TaskID). x.0) r.runner-runner.ensures) t.of_task-level.ensures t.of_task-hand.ensures t.of_task-how.ensures
    c.count_eligible-count.ensures c.has_room.ensures
