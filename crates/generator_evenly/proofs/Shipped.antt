-- What is promised of a draw by even choices as it is shipped: `drawn_of k seed p` is what `draw` answers (its contract is the equation), and `stepped k c` what
-- Kernel::step does. Each promise in plain words, and then in antt. Assumes nothing.
use Prim.Native.Nat.{ℕ, ◌-◌, ◌≤◌, ◌<◌, ◌^◌}
use native.Mathlib.Omega.{arith}
use mathlib.Core.Path.{◌≡◌, refl, sym, ap, ◌∙◌}
use mathlib.Core.Logic.{◌≢◌}
use mathlib.Core.Bool.{Bool, true, false, cond, not}
use mathlib.Core.List.{[], ◌∷◌}
use lib.Dec.{eqb}
use borrow.Author.Tests.{eqb-true, eq-eqb}
use Rattle.rules.specs.Line.{at}
use Rattle.rules.specs.Machine.{Machine}
use Rattle.rules.specs.Refusals.{first_number}
use Rattle.rules.specs.Run.{answer}
use Rattle.kernel.specs.declared.Kernel.{Kernel}
use Rattle.kernel.specs.View.{view}
use Rattle.kernel.specs.Public.{is_sound, step_of, stepped}
use Rattle.generator_draws.specs.Below.{even}
use Rattle.generator_draws.specs.Draw as draws
use Rattle.generator_draws.specs.Draw.{good_profile, draw_refusal, made_by, drawn_by, drawn_evenly}
use Rattle.generator_draws.proofs.Chooses.{times, even_chooses}
use Rattle.generator_draws.proofs.Theorems.{drawn_by_is_fine, seed_spent, refused_makes_none, seed_spent_lives}
use Rattle.generator.specs.declared.Profile.{Profile}
use Rattle.generator.specs.Public.{profile_of, code_of}
use Rattle.generator.proofs.Shipped.{machine_sound, checked}
use Rattle.generator_menu.specs.Public.{told_made}
use Rattle.generator_evenly.specs.declared.Drawn.{Drawn}
use Rattle.generator_evenly.specs.Public.{told_drawn, made_of, refused_of, drawn_of}

-- The two ways of a draw: of a sound state it is the draw of the machine; any other is refused with 1.
data Tested (k : Kernel) (seed : ℕ) (p : Profile) : Type 0 where
  tested : is_sound k ≡ true → drawn_of k seed p ≡ told_drawn (drawn_by even (view k) seed (profile_of p)) → Tested k seed p
  unsound : is_sound k ≡ false → drawn_of k seed p ≡ refused_of 1 seed → Tested k seed p

ways : (k : Kernel) (seed : ℕ) (p : Profile) → Tested k seed p
unfolding drawn_of drawn_evenly
ways k seed p = go (is_sound k) refl
  where
    go : (b : Bool) → is_sound k ≡ b → Tested k seed p
    go true e = tested e (rw e)
    go false e = unsound e (rw e)

pub code_same : {d e : Drawn} → d ≡ e → d.code ≡ e.code
code_same q = ap (λ (d : Drawn). d.code) q

-- ## The checks, in their order: those of edition 1
drawn_code : (m : Machine) (seed : ℕ) (p : draws.Profile) → (drawn_by even m seed p).code ≡ draw_refusal m seed p
unfolding drawn_by
drawn_code m seed p = go (eqb (draw_refusal m seed p) 0) refl _ _ refl refl
  where
    go : (b : Bool) → eqb (draw_refusal m seed p) 0 ≡ b → (x y : draws.Spending) → x.code ≡ 0 → y.code ≡ draw_refusal m seed p
        → (cond b x y).code ≡ draw_refusal m seed p
    go true e x y f g = f ∙ sym (eqb-true _ _ e)
    go false e x y f g = g

pub code_is : (k : Kernel) (seed : ℕ) (p : Profile) → (drawn_of k seed p).code ≡ code_of k seed p
code_is k seed p = go (ways k seed p)
  where
    go : Tested k seed p → (drawn_of k seed p).code ≡ code_of k seed p
    go (tested s q) = rw (q, s) (drawn_code (view k) seed (profile_of p))
    go (unsound s q) = rw (q, s)

-- A draw: 1, 17, 18, 2, and the first that holds is answered.
pub code_in_order : (k : Kernel) (seed : ℕ) (p : Profile)
    → (drawn_of k seed p).code ≡ first_number ((not (is_sound k), 1) ∷ (eqb seed 0, 17) ∷ (not (good_profile (profile_of p)), 18) ∷ (not k.started, 2) ∷ [])
code_in_order k seed p = code_is k seed p ∙ sym (checked k seed p)

-- ## Every drawn command is accepted
-- Unless the draw itself is refused, the kernel's step accepts what is drawn: from every state, seed and profile.
pub drawn_accepted : (k : Kernel) (seed : ℕ) (p : Profile) → (drawn_of k seed p).code ≡ 0 → (stepped k (drawn_of k seed p).command).answer.code ≡ 0
unfolding step_of answer
drawn_accepted k seed p e = go (ways k seed p)
  where
    go : Tested k seed p → (stepped k (drawn_of k seed p).command).answer.code ≡ 0
    go (tested s q) = rw (q, s) (drawn_by_is_fine even even_chooses (view k) seed (profile_of p) (machine_sound k s) (sym (code_same q) ∙ e)).accepted
    go (unsound s q) = absurd (omega (arith, code_same q))

-- It is of an op 4..11, and that kind's weight is not 0.
pub drawn_has_weight : (k : Kernel) (seed : ℕ) (p : Profile) → let d = drawn_of k seed p in d.code ≡ 0
    → (4 ≤ d.command.op) × (d.command.op ≤ 11) × (1 ≤ at p.weights (d.command.op - 4))
drawn_has_weight k seed p e = go (ways k seed p)
  where
    go : Tested k seed p → let d = drawn_of k seed p in (4 ≤ d.command.op) × (d.command.op ≤ 11) × (1 ≤ at p.weights (d.command.op - 4))
    go (tested s q) =
        let f = drawn_by_is_fine even even_chooses (view k) seed (profile_of p) (machine_sound k s) (sym (code_same q) ∙ e) in
        rw q (f.op.0, f.op.1, f.weight)
    go (unsound s q) = absurd (omega (arith, code_same q))

-- A draw that is made comes from a sound state.
pub made_sound : (k : Kernel) (seed : ℕ) (p : Profile) → (drawn_of k seed p).code ≡ 0 → is_sound k ≡ true
made_sound k seed p e = go (ways k seed p)
  where
    go : Tested k seed p → is_sound k ≡ true
    go (tested s q) = s
    go (unsound s q) = absurd (omega (arith, code_same q))

-- ## The seed
-- The draws spent are told truly: the seed left behind is the draw applied that often, 3 to 24 times. A refused draw makes none.
pub spent_truly : (k : Kernel) (seed : ℕ) (p : Profile) → let d = drawn_of k seed p in d.code ≡ 0
    → (d.seed ≡ times d.spent seed) × (3 ≤ d.spent) × (d.spent ≤ 24)
spent_truly k seed p e = go (ways k seed p)
  where
    go : Tested k seed p → let d = drawn_of k seed p in (d.seed ≡ times d.spent seed) × (3 ≤ d.spent) × (d.spent ≤ 24)
    go (tested s q) = rw q (seed_spent even even_chooses (view k) seed (profile_of p) (sym (code_same q) ∙ e))
    go (unsound s q) = absurd (omega (arith, code_same q))

pub refused_leaves : (k : Kernel) (seed : ℕ) (p : Profile) → (drawn_of k seed p).code ≢ 0 → drawn_of k seed p ≡ refused_of (drawn_of k seed p).code seed
refused_leaves k seed p n = go (ways k seed p)
  where
    go : Tested k seed p → drawn_of k seed p ≡ refused_of (drawn_of k seed p).code seed
    go (tested s q) = let w = refused_makes_none even (view k) seed (profile_of p) (λ z. n (code_same q ∙ z)) in rw q (rw (w.0, w.1, w.2))
    go (unsound s q) = rw q

-- A draw that is made answers what the three choices make.
by_choices : (m : Machine) (seed : ℕ) (p : draws.Profile) → (drawn_by even m seed p).code ≡ 0
    → let d = made_by even m seed p in drawn_by even m seed p ≡ record { code = 0; command = d.command; seed = d.seed; spent = d.spent }
unfolding drawn_by
by_choices m seed p z = rw (eq-eqb (draw_refusal m seed p) 0 (sym (drawn_code m seed p) ∙ z))

pub drawn_made : (k : Kernel) (seed : ℕ) (p : Profile) → (drawn_of k seed p).code ≡ 0
    → drawn_of k seed p ≡ made_of (told_made (made_by even (view k) seed (profile_of p)))
drawn_made k seed p e = go (ways k seed p)
  where
    go : Tested k seed p → drawn_of k seed p ≡ made_of (told_made (made_by even (view k) seed (profile_of p)))
    go (tested s q) = q ∙ ap told_drawn (by_choices (view k) seed (profile_of p) (sym (code_same q) ∙ e))
    go (unsound s q) = absurd (omega (arith, code_same q))

-- A seed of 32 bits that is not 0 never dies: what is left behind is again such a seed.
pub seed_never_dies : (k : Kernel) (seed : ℕ) (p : Profile) → seed < 2 ^ 32 → seed ≢ 0 → ((drawn_of k seed p).seed < 2 ^ 32) × ((drawn_of k seed p).seed ≢ 0)
seed_never_dies k seed p h n = go (ways k seed p)
  where
    go : Tested k seed p → ((drawn_of k seed p).seed < 2 ^ 32) × ((drawn_of k seed p).seed ≢ 0)
    go (tested s q) = rw q (seed_spent_lives even even_chooses (view k) seed (profile_of p) h n)
    go (unsound s q) = rw q (h, n)
