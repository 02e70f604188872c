-- What both editions' choosers have in common: the number is below n, the seed left is the draw applied as often as is told, and that is 1 to 8 times.
-- Assumes nothing.
use Prim.Native.Nat.{ℕ, zero, suc, ◌+◌, ◌-◌, ◌%◌, ◌≤◌, ◌<◌, ◌^◌}
use native.Mathlib.Omega.{arith}
use native.Mathlib.Nat.{mod-lt, mod-one}
use mathlib.Core.Path.{◌≡◌, refl, ap, ◌∙◌}
use mathlib.Core.Bool.{Bool, true, false, cond}
use lib.Dec.{eqb, ltb}
use borrow.Author.Tests.{lt-ltb}
use Rattle.generator_draws.specs.Xorshift.{draw}
use Rattle.generator_draws.specs.Below.{Choice, Chooser, remainder, value, limit, taken, one_later, choose_within, even, plain, if_needed}
use Rattle.generator_draws.proofs.Undone.{draw_fits}

-- the draw, applied n times
abbrev pub times : ℕ → ℕ → ℕ
times zero x = x
times (suc n) x = times n (draw x)

pub times_add : (a b x : ℕ) → times b (times a x) ≡ times (a + b) x
times_add zero b x = let e : b ≡ 0 + b = omega arith in ap (λ (k : ℕ). times k x) e
times_add (suc a) b x = let e : suc (a + b) ≡ suc a + b = omega arith in times_add a b (draw x) ∙ ap (λ (k : ℕ). times k x) e

-- What is told of a choice: the number is below n, where n is not 0; the draws are 1 to `top`; the seed left is the draw applied that often.
pub record Chosen (top n seed : ℕ) (c : Choice) : Type 0 where
  pub below : 1 ≤ n → c.number < n
  pub least : 1 ≤ c.spent
  pub most : c.spent ≤ top
  pub left : c.seed ≡ times c.spent seed

abbrev pub Chooses : Chooser → Type 0
Chooses choice = (n seed : ℕ) → Chosen 8 n seed (choice n seed)

-- Edition 1.
pub remainder_chooses : Chooses remainder
remainder_chooses n seed = record { below = λ h. mod-lt (draw seed) h; least = omega arith; most = omega arith; left = refl }

-- Edition 2: of one draw, of a choice one draw later, and of all.
taken_chosen : (more n seed : ℕ) → Chosen (suc more) n seed (taken n seed)
taken_chosen more n seed = record { below = λ h. mod-lt (value seed) h; least = omega arith; most = omega arith; left = refl }

later_chosen : (more n seed : ℕ) (c : Choice) → Chosen more n (draw seed) c → Chosen (suc more) n seed (one_later c)
later_chosen more n seed c k = record { below = k.below; least = omega arith; most = omega (arith, k.most); left = k.left }

within_chosen : (more n seed : ℕ) → Chosen (suc more) n seed (choose_within more n seed)
within_chosen zero n seed = taken_chosen 0 n seed
within_chosen (suc more) n seed = go (ltb (value seed) (limit n)) (within_chosen more n (draw seed))
  where
    go : (b : Bool) → Chosen (suc more) n (draw seed) (choose_within more n (draw seed))
        → Chosen (suc (suc more)) n seed (cond b (taken n seed) (one_later (choose_within more n (draw seed))))
    go true k = taken_chosen (suc more) n seed
    go false k = later_chosen (suc more) n seed (choose_within more n (draw seed)) k

pub even_chooses : Chooses even
unfolding even
even_chooses n seed = within_chosen 7 n seed

-- A first draw whose v is below L is taken at once.
within_at_once : (more n seed : ℕ) → value seed < limit n → choose_within (suc more) n seed ≡ taken n seed
within_at_once more n seed h = rw (lt-ltb (value seed) (limit n) h)

pub at_once : (n seed d : ℕ) → draw seed ≡ d → d - 1 < limit n → even n seed ≡ record { number = (d - 1) % n; seed = d; spent = 1 }
unfolding even
at_once n seed d e h = within_at_once 6 n seed (rw e h) ∙ ap (λ (x : ℕ). let c : Choice = record { number = (x - 1) % n; seed = x; spent = 1 } in c) e

-- A number that is not needed: one draw is spent on it.
pub needed_chooses : (choice : Chooser) → Chooses choice → Chooses (if_needed choice)
needed_chooses choice k n seed = go (eqb n 0) refl (k n seed)
  where
    go : (b : Bool) → eqb n 0 ≡ b → Chosen 8 n seed (choice n seed) → Chosen 8 n seed (cond b (plain seed) (choice n seed))
    go true e c = record { below = λ h. h; least = omega arith; most = omega arith; left = refl }
    go false e c = c

-- ## A choice below 1
-- It is 0 and spends one draw. (So does every choice of edition 1.) No draw of 32 bits is above 4294967295, and so none is drawn again.
pub below_1 : (seed : ℕ) → seed < 2 ^ 32 → even 1 seed ≡ plain seed
below_1 seed h =
    let d : draw seed < 4294967296 = draw_fits seed h in
    let z : value seed % 1 ≡ 0 = mod-one (value seed) in
    at_once 1 seed (draw seed) refl (omega arith) ∙ ap (λ (x : ℕ). let c : Choice = record { number = x; seed = draw seed; spent = 1 } in c) z
