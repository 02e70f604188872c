-- A seed is one stream of draws: n commands drawn one after another, each from the seed that the last left, for any states and profiles, make 3n draws of the
-- definition from the first seed, no more and no fewer, where none is refused. Assumes nothing.
use Prim.Native.Nat.{ℕ, zero, suc, ◌*◌}
use native.Mathlib.Omega.{arith}
use mathlib.Core.Path.{◌≡◌, refl, sym, ap, ◌∙◌}
use mathlib.Core.List.{List, [], ◌∷◌}
use lib.ListN.{length}
use Rattle.kernel.specs.declared.Kernel.{Kernel}
use Rattle.generator.specs.declared.Profile.{Profile}
use Rattle.generator_draws.specs.Xorshift.{draw}
use Rattle.generator.specs.Public.{drawn_of}
use Rattle.generator.proofs.Shipped.{seed_left_behind}

-- n draws of the definition
abbrev pub times : ℕ → ℕ → ℕ
times zero x = x
times (suc n) x = times n (draw x)

-- the seed behind the commands that are drawn, each from the seed that the one before left
abbrev pub seed_behind : List (Kernel × Profile) → ℕ → ℕ
seed_behind [] seed = seed
seed_behind (x ∷ l) seed = seed_behind l (drawn_of x.0 seed x.1).seed

-- none of them is refused
abbrev pub AllDrawn : List (Kernel × Profile) → ℕ → Type 0
AllDrawn [] seed = Unit {0}
AllDrawn (x ∷ l) seed = ((drawn_of x.0 seed x.1).code ≡ 0) × AllDrawn l (drawn_of x.0 seed x.1).seed

-- Rules out: fewer draws for some command, and a draw made twice.
pub three_for_each : (asked : List (Kernel × Profile)) (seed : ℕ) → AllDrawn asked seed → seed_behind asked seed ≡ times (3 * length asked) seed
three_for_each [] seed a = refl
three_for_each (x ∷ l) seed a =
    let e : 3 * suc (length l) ≡ suc (suc (suc (3 * length l))) = omega arith in
    three_for_each l (drawn_of x.0 seed x.1).seed a.1 ∙ ap (times (3 * length l)) (seed_left_behind x.0 seed x.1 a.0)
    ∙ sym (ap (λ (m : ℕ). times m seed) e)
