-- What a draw by even choices answers, as the definitions over document 01's machine say it.
use Rattle.std.specs.Prelude.{ℕ, zero, suc, ◌≡◌, cond}
use Rattle.kernel.specs.declared.Kernel.{Kernel}
use Rattle.kernel.specs.declared.command.Answer.{Answer}
use Rattle.kernel.specs.View.{view}
use Rattle.kernel.specs.Public.{is_sound, stepped}
use Rattle.generator_draws.specs.Draw as draw
use Rattle.generator.specs.declared.Profile.{Profile}
use Rattle.generator.specs.declared.Drawn as once
use Rattle.generator.specs.Public.{profile_of, behind_draw, answer_to}
use Rattle.generator_menu.specs.declared.Made.{Made}
use Rattle.generator_menu.specs.Public.{told_command}
use Rattle.generator_evenly.specs.declared.Drawn.{Drawn}
use Rattle.generator_evenly.specs.declared.Carried.{Carried}

-- the answer of a draw, in the program's numbers; of one that is made, and of a refused one
abbrev pub told_drawn : draw.Spending → Drawn
told_drawn d = record { code = d.code; command = told_command d.command; seed = d.seed; spent = d.spent }

abbrev pub made_of : Made → Drawn
made_of d = record { code = 0; command = d.command; seed = d.seed; spent = d.spent }

abbrev pub refused_of : ℕ → ℕ → Drawn
refused_of code seed = record { code = code; command = told_command draw.no_command; seed = seed; spent = 0 }

-- A draw of edition 2: 1 comes first, and a state that is not sound is answered so.
unfoldable pub drawn_of : Kernel → ℕ → Profile → Drawn
drawn_of k seed p = cond (is_sound k) (told_drawn (draw.drawn_evenly (view k) seed (profile_of p))) (refused_of 1 seed)

-- A draw with its step: the state left behind and the answer follow from what was drawn, as they do for edition 1.
abbrev pub bare : Drawn → once.Drawn
bare d = record { code = d.code; command = d.command; seed = d.seed }

abbrev pub carried_of : Drawn → Answer → Carried
carried_of d a = record { drawn = d; answer = a }

abbrev pub DrawsAndSteps : Kernel → ℕ → Profile → Carried → Kernel → Type 0
DrawsAndSteps k seed p r left =
    let d = drawn_of k seed p in
    (left ≡ behind_draw k (bare d)) × (r ≡ carried_of d (answer_to k (bare d)))

-- n draws, each with its step: the state and the seed behind them.
unfoldable pub draws_of : ℕ → Kernel → ℕ → Profile → Kernel × ℕ
draws_of zero k seed p = (k, seed)
draws_of (suc n) k seed p = let d = drawn_of k seed p in draws_of n (stepped k d.command).next d.seed p
