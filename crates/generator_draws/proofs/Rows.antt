-- Edition 2 in numbers, computed: seeds whose choice draws again, found by a search through all of them, and commands drawn from the set-up of the walk.
-- Assumes nothing.
use mathlib.Core.Path.{◌≡◌, refl}
use mathlib.Core.List.{[], ◌∷◌}
use Rattle.rules.specs.Machine.{fresh}
use Rattle.rules.specs.Table.{carry, leave, release}
use Rattle.rules.specs.Refusals.{refusal}
use Rattle.rules.specs.Run.{next, run}
use Rattle.rules.proofs.Words.{cmd}
use Rattle.rules.proofs.Walk.{set_up}
use Rattle.generator_draws.specs.Xorshift.{draw}
use Rattle.generator_draws.specs.Below.{even}
use Rattle.generator_draws.specs.Menu.{menu}
use Rattle.generator_draws.specs.Draw.{Profile, made_by, draw_refusal, drawn_by, drawn_evenly}
use Rattle.generator_draws.proofs.Theorems.{tens, entered, mostly_done}

-- Below 7 L is 4294967292. The three draws that are not below it come from three seeds; the last of them is L itself.
-- Rules out: "not below L" taken for "above L", and a count that leaves out a draw that was made again.
pub seven_again : (even 7 1584200935 ≡ record { number = 1; seed = 253983; spent = 2 }) × (even 7 2899933646 ≡ record { number = 3; seed = 507966; spent = 2 })
    × (even 7 3137861301 ≡ record { number = 5; seed = 761949; spent = 2 })
unfolding even draw
seven_again = (refl, refl, refl)

-- Below 100; below 2147483649, where nearly half of all draws are made again, seven times from that seed; and below 2863311530, where a third is: from the
-- first seed the eighth draw is below L, from the second it is not, and is taken all the same. Rules out: a ninth draw, and an eighth that is not made.
pub again_and_again : (even 100 22372349 ≡ record { number = 48; seed = 22350349; spent = 2 })
    × (even 2147483649 8368 ≡ record { number = 1264041421; seed = 3411525071; spent = 8 })
    × (even 2863311530 12827 ≡ record { number = 529093277; seed = 529093278; spent = 8 })
    × (even 2863311530 11818 ≡ record { number = 160613986; seed = 3023925517; spent = 8 })
unfolding even draw
again_and_again = (refl, refl, refl, refl)

-- Commands. From seed 1 with ten for each kind, as document 01's drawn delay 39 of edition 1; with S of 7 and of 100, from seeds whose first choice draws
-- again; and inside an entry, where done's barrier is the last choice.
abbrev sum_7 : Profile
sum_7 = record { span = 100; weights = 1 ∷ 2 ∷ 4 ∷ 0 ∷ 0 ∷ 0 ∷ 0 ∷ 0 ∷ [] }

abbrev sum_100 : Profile
sum_100 = record { span = 999; weights = 30 ∷ 20 ∷ 50 ∷ 0 ∷ 0 ∷ 0 ∷ 0 ∷ 0 ∷ [] }

pub drawn_rows : (drawn_evenly (run fresh set_up) 1 tens ≡ record { code = 0; command = cmd 4 0 0 38; seed = 2647435461; spent = 3 })
    × (drawn_evenly (run fresh set_up) 3137861301 sum_7 ≡ record { code = 0; command = cmd 6 0 0 37; seed = 1562591425; spent = 4 })
    × (drawn_evenly (run fresh set_up) 111845375 sum_100 ≡ record { code = 0; command = cmd 4 0 0 356; seed = 4215284456; spent = 4 })
    × (drawn_evenly entered 8 mostly_done ≡ record { code = 0; command = cmd 11 1 0 0; seed = 2791531049; spent = 3 })
    × (drawn_evenly entered 9 mostly_done ≡ record { code = 0; command = cmd 11 1 1 0; seed = 1001376492; spent = 3 })
unfolding drawn_evenly drawn_by made_by draw_refusal menu even draw run next refusal carry leave release
drawn_rows = (refl, refl, refl, refl, refl)
