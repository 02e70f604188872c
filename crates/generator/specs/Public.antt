-- What the generator's functions answer, as the definitions over document 01's machine say it.
use Rattle.std.specs.Prelude.{ℕ, zero, suc, ◌≡◌, cond, eqb, List}
use Rattle.kernel.specs.declared.Kernel.{Kernel}
use Rattle.kernel.specs.declared.command.Answer.{Answer}
use Rattle.kernel.specs.View.{view}
use Rattle.kernel.specs.Public.{is_sound, stepped, running_of}
use Rattle.generator.specs.declared.Profile.{Profile}
use Rattle.generator.specs.declared.Drawn.{Drawn}
use Rattle.generator.specs.declared.Carried.{Carried}
use Rattle.generator_draws.specs.Draw as draw
use Rattle.generator_draws.specs.Xorshift as xorshift
use Rattle.generator_menu.specs.Public.{told_command, chosen_of}

-- a profile of 32-bit numbers, as the definitions have it; and the answer of a draw, in the program's numbers
abbrev pub profile_of : Profile → draw.Profile
profile_of p = draw.profile_of p.span p.weights

abbrev pub told_drawn : draw.Drawn → Drawn
told_drawn d = record { code = d.code; command = told_command d.command; seed = d.seed }

-- A refused draw answers op 0 with zero operands and the same seed.
abbrev pub refused_of : ℕ → ℕ → Drawn
refused_of code seed = record { code = code; command = told_command draw.no_command; seed = seed }

-- The answer of a draw that is made: the command that its three draws choose, and the third as the seed.
abbrev pub made_of : Kernel → Profile → ℕ → ℕ → ℕ → Drawn
made_of k p d1 d2 d3 =
    record { code = 0; command = told_command (draw.chosen (view k) (profile_of p) d1 d2 d3); seed = d3 }

-- the same, of the machine that the tables show
abbrev pub made_in : List ℕ → List ℕ → List ℕ → List ℕ → List ℕ → List ℕ → ℕ → ℕ → Profile → Drawn
made_in base ready held way ceiling waiter clock seed p =
    let d1 = xorshift.draw seed in
    let d2 = xorshift.draw d1 in
    let d3 = xorshift.draw d2 in
    record {
      code = 0;
      command = chosen_of base ready held way ceiling waiter clock p.span p.weights d1 d2 d3;
      seed = d3;
    }

-- The draw of the machine that the tables stand for, with its checks 17, 18, 2.
unfoldable pub drawn_in : Kernel → ℕ → Profile → Drawn
drawn_in k seed p = told_drawn (draw.drawn (view k) seed (profile_of p))

-- A draw's checks, 1, 17, 18, 2: the number of the first that holds, 0 for none.
abbrev pub code_of : Kernel → ℕ → Profile → ℕ
code_of k seed p = cond (is_sound k) (draw.draw_refusal (view k) seed (profile_of p)) 1

-- A draw: 1 comes first, and a state that is not sound is answered so.
unfoldable pub drawn_of : Kernel → ℕ → Profile → Drawn
drawn_of k seed p = cond (is_sound k) (drawn_in k seed p) (refused_of 1 seed)

-- A draw with its step. A draw that is made is a step of the kernel; a refused one leaves the state,
abbrev pub behind_draw : Kernel → Drawn → Kernel
behind_draw k d = cond (eqb d.code 0) (stepped k d.command).next k

-- and is answered with its code, the running task as it stands, and nobody released.
abbrev pub unmoved : ℕ → ℕ → Answer
unmoved code running = record { code = code; running = record { 0 = running }; released = record { 0 = 0 } }

abbrev pub answer_to : Kernel → Drawn → Answer
answer_to k d = cond (eqb d.code 0) (stepped k d.command).answer (unmoved d.code (running_of k))

-- The whole of it: the state left behind, what is drawn, and the answer.
abbrev pub carried_of : Drawn → Answer → Carried
carried_of d a = record { drawn = d; answer = a }

abbrev pub DrawsAndSteps : Kernel → ℕ → Profile → Carried → Kernel → Type 0
DrawsAndSteps k seed p r left =
    let d = drawn_of k seed p in
    (left ≡ behind_draw k d) × (r ≡ carried_of d (answer_to k d))

-- n draws, each with its step: the state and the seed behind them.
unfoldable pub draws_of : ℕ → Kernel → ℕ → Profile → Kernel × ℕ
draws_of zero k seed p = (k, seed)
draws_of (suc n) k seed p = let d = drawn_of k seed p in draws_of n (stepped k d.command).next d.seed p
