-- What is promised of the draw that is shipped: `drawn_of k seed p` is what `draw` answers (its contract is the equation), and `stepped k c`
-- what Kernel::step does. Each promise in plain words, and then in antt. Assumes nothing.
use Prim.Native.Nat.{ℕ, zero, suc, ◌-◌, ◌≤◌, ◌<◌, ◌^◌}
use native.Mathlib.Omega.{arith}
use mathlib.Core.Path.{◌≡◌, refl, sym, ap, ◌∙◌}
use mathlib.Core.Logic.{◌≢◌}
use mathlib.Core.Bool.{Bool, true, false, cond, not}
use mathlib.Core.List.{[], ◌∷◌}
use lib.Dec.{eqb}
use borrow.Author.Tests.{eqb-true, eq-eqb, ne_eqb}
use Rattle.rules.specs.Line.{at}
use Rattle.rules.specs.Machine.{Machine, fresh}
use Rattle.rules.specs.Machine as rules
use Rattle.rules.specs.Table.{Effect, nothing, creates, declares, begins, moves, effect, carry}
use Rattle.rules.specs.Refusals.{first_number}
use Rattle.rules.specs.Sound.{sound}
use Rattle.rules.specs.Run.{next, answer, run}
use Rattle.rules.proofs.Sounds.{Sound, tests_sound}
use Rattle.rules.proofs.Step.{Step, kept, carried, step, moved_started, run_sound, fresh_sound}
use Rattle.rules.proofs.Walk.{set_up}
use Rattle.kernel.specs.declared.Kernel.{Kernel}
use Rattle.kernel_checks.specs.declared.Command.{Command}
use Rattle.kernel.specs.View.{view, encode}
use Rattle.kernel.specs.Public.{is_sound, step_of, stepped, to_rules, running_of}
use Rattle.kernel.proofs.Round.{view_encode}
use Rattle.kernel.proofs.Written.{encode_sound, stands, step_sound}
use Rattle.generator.specs.declared.Profile.{Profile}
use Rattle.generator.specs.declared.Drawn.{Drawn}
use Rattle.generator_draws.specs.Xorshift.{draw}
use Rattle.generator_draws.specs.Draw as draws
use Rattle.generator_draws.specs.Draw.{good_profile, refused_by, chosen, draw_refusal, drawn}
use Rattle.generator_draws.specs.Menu.{menu}
use Rattle.generator_menu.specs.Public.{chosen_of}
use Rattle.generator.specs.Public.{profile_of, told_drawn, refused_of, made_of, made_in, code_of, drawn_in, drawn_of, behind_draw, unmoved, answer_to, draws_of}
use Rattle.generator_draws.proofs.Theorems.{drawn_is, drawn_is_fine, seed_left, refused_draw, seed_lives, drawn_delay}

-- The two ways of a draw: of a sound state it is the draw of the machine; any other is refused with 1.
data Tested (k : Kernel) (seed : ℕ) (p : Profile) : Type 0 where
  tested : is_sound k ≡ true → drawn_of k seed p ≡ told_drawn (drawn (view k) seed (profile_of p)) → Tested k seed p
  unsound : is_sound k ≡ false → drawn_of k seed p ≡ refused_of 1 seed → Tested k seed p

ways : (k : Kernel) (seed : ℕ) (p : Profile) → Tested k seed p
unfolding drawn_of drawn_in
ways k seed p = go (is_sound k) refl
  where
    go : (b : Bool) → is_sound k ≡ b → Tested k seed p
    go true e = tested e (rw e)
    go false e = unsound e (rw e)

pub code_same : {d e : Drawn} → d ≡ e → d.code ≡ e.code
code_same q = ap (λ (d : Drawn). d.code) q

pub machine_sound : (k : Kernel) → is_sound k ≡ true → sound (view k) ≡ true
machine_sound k e = (tests_sound (view k)).found (stands k e).machine

-- ## The checks, in their order
drawn_code : (m : Machine) (seed : ℕ) (p : draws.Profile) → (drawn m seed p).code ≡ draw_refusal m seed p
drawn_code m seed p = ap (λ (d : draws.Drawn). d.code) (drawn_is m seed p) ∙ go (eqb (draw_refusal m seed p) 0) refl _ _ refl refl
  where
    go : (b : Bool) → eqb (draw_refusal m seed p) 0 ≡ b → (x y : draws.Drawn) → x.code ≡ 0 → y.code ≡ draw_refusal m seed p
        → (cond b x y).code ≡ draw_refusal m seed p
    go true e x y f g = f ∙ sym (eqb-true _ _ e)
    go false e x y f g = g

-- the checks as the code has them: 1 first, then the others
pub checked : (k : Kernel) (seed : ℕ) (p : Profile) → cond (not (is_sound k)) 1 (refused_by k.started seed (profile_of p)) ≡ code_of k seed p
unfolding draw_refusal view
checked k seed p = go (is_sound k)
  where
    go : (b : Bool) → cond (not b) 1 (refused_by k.started seed (profile_of p)) ≡ cond b (refused_by k.started seed (profile_of p)) 1
    go true = refl
    go false = refl

pub code_is : (k : Kernel) (seed : ℕ) (p : Profile) → (drawn_of k seed p).code ≡ code_of k seed p
code_is k seed p = go (ways k seed p)
  where
    go : Tested k seed p → (drawn_of k seed p).code ≡ code_of k seed p
    go (tested s q) = rw (q, s) (drawn_code (view k) seed (profile_of p))
    go (unsound s q) = rw (q, s)

-- A draw: 1, 17, 18, 2, and the first that holds is answered.
-- Rules out: 18 tested before 17; another number than 1 for a forged state.
pub code_in_order : (k : Kernel) (seed : ℕ) (p : Profile)
    → (drawn_of k seed p).code ≡ first_number ((not (is_sound k), 1) ∷ (eqb seed 0, 17) ∷ (not (good_profile (profile_of p)), 18) ∷ (not k.started, 2) ∷ [])
unfolding draw_refusal view
code_in_order k seed p = go (ways k seed p)
  where
    go : Tested k seed p → (drawn_of k seed p).code ≡ first_number
        ((not (is_sound k), 1) ∷ (eqb seed 0, 17) ∷ (not (good_profile (profile_of p)), 18) ∷ (not k.started, 2) ∷ [])
    go (tested s q) = rw (q, s) (drawn_code (view k) seed (profile_of p))
    go (unsound s q) = rw (q, s)

-- ## Every drawn command is accepted
-- Unless the draw itself is refused, the kernel's step accepts what is drawn: from every state, seed and profile.
-- Rules out: a delay drawn while inside an object, an entry with barrier 0 on an object with a waiter, a closing command of the wrong way.
-- Leaves: a generator that always says wake (proofs/Theorems, each-kind-drawn), one that refuses every draw (code-in-order).
pub drawn_accepted : (k : Kernel) (seed : ℕ) (p : Profile) → (drawn_of k seed p).code ≡ 0 → (stepped k (drawn_of k seed p).command).answer.code ≡ 0
unfolding step_of answer
drawn_accepted k seed p e = go (ways k seed p)
  where
    go : Tested k seed p → (stepped k (drawn_of k seed p).command).answer.code ≡ 0
    go (tested s q) = rw (q, s) (drawn_is_fine (view k) seed (profile_of p) (machine_sound k s) (sym (code_same q) ∙ e)).accepted
    go (unsound s q) = absurd (omega (arith, code_same q))

-- ## A draw with its step
-- A draw that is made comes from a sound state.
pub made_sound : (k : Kernel) (seed : ℕ) (p : Profile) → (drawn_of k seed p).code ≡ 0 → is_sound k ≡ true
made_sound k seed p e = go (ways k seed p)
  where
    go : Tested k seed p → is_sound k ≡ true
    go (tested s q) = s
    go (unsound s q) = absurd (omega (arith, code_same q))

-- A refused draw leaves the state; one that is made is a step.
pub refused_stays : (k : Kernel) (d : Drawn) → d.code ≢ 0 → (k ≡ behind_draw k d) × (unmoved d.code (running_of k) ≡ answer_to k d)
refused_stays k d n = (rw (ne_eqb d.code 0 n), rw (ne_eqb d.code 0 n))

pub made_steps : (k : Kernel) (d : Drawn) → d.code ≡ 0
    → ((stepped k d.command).next ≡ behind_draw k d) × ((stepped k d.command).answer ≡ answer_to k d)
made_steps k d e = (rw (eq-eqb d.code 0 e), rw (eq-eqb d.code 0 e))

-- ## What is drawn
-- It is of an op 4..11, and that kind's weight is not 0.
pub drawn_has_weight : (k : Kernel) (seed : ℕ) (p : Profile) → (drawn_of k seed p).code ≡ 0
    → (4 ≤ (drawn_of k seed p).command.op) × ((drawn_of k seed p).command.op ≤ 11) × (1 ≤ at p.weights ((drawn_of k seed p).command.op - 4))
drawn_has_weight k seed p e = go (ways k seed p)
  where
    go : Tested k seed p → (4 ≤ (drawn_of k seed p).command.op) × ((drawn_of k seed p).command.op ≤ 11)
        × (1 ≤ at p.weights ((drawn_of k seed p).command.op - 4))
    go (tested s q) = let f = drawn_is_fine (view k) seed (profile_of p) (machine_sound k s) (sym (code_same q) ∙ e) in rw q (f.op.0, f.op.1, f.weight)
    go (unsound s q) = absurd (omega (arith, code_same q))

-- ## The seed
-- The seed left behind is the third draw; a refused draw leaves the seed, and answers op 0 with zero operands.
-- Rules out: fewer draws where an operand is not needed, and a refused draw that advances the seed.
pub seed_left_behind : (k : Kernel) (seed : ℕ) (p : Profile) → (drawn_of k seed p).code ≡ 0 → (drawn_of k seed p).seed ≡ draw (draw (draw seed))
seed_left_behind k seed p e = go (ways k seed p)
  where
    go : Tested k seed p → (drawn_of k seed p).seed ≡ draw (draw (draw seed))
    go (tested s q) = rw q (seed_left (view k) seed (profile_of p) (sym (code_same q) ∙ e))
    go (unsound s q) = absurd (omega (arith, code_same q))

pub refused_leaves : (k : Kernel) (seed : ℕ) (p : Profile) → (drawn_of k seed p).code ≢ 0 → drawn_of k seed p ≡ refused_of (drawn_of k seed p).code seed
refused_leaves k seed p n = go (ways k seed p)
  where
    go : Tested k seed p → drawn_of k seed p ≡ refused_of (drawn_of k seed p).code seed
    go (tested s q) = let w = refused_draw (view k) seed (profile_of p) (λ z. n (code_same q ∙ z)) in rw q (rw (w.0, w.1))
    go (unsound s q) = rw q

-- A draw that is made answers the command that its three draws choose, one after another from the seed.
-- Rules out: a draw made twice from one seed, and a command of other draws than the three that are left behind.
by_three : (m : Machine) (seed : ℕ) (p : draws.Profile) → (drawn m seed p).code ≡ 0
    → drawn m seed p ≡ record { code = 0; command = chosen m p (draw seed) (draw (draw seed)) (draw (draw (draw seed))); seed = draw (draw (draw seed)) }
by_three m seed p z = drawn_is m seed p ∙ rw (eq-eqb (draw_refusal m seed p) 0 (sym (drawn_code m seed p) ∙ z))

pub drawn_made : (k : Kernel) (seed : ℕ) (p : Profile) → (drawn_of k seed p).code ≡ 0
    → drawn_of k seed p ≡ made_of k p (draw seed) (draw (draw seed)) (draw (draw (draw seed)))
drawn_made k seed p e = go (ways k seed p)
  where
    go : Tested k seed p → drawn_of k seed p ≡ made_of k p (draw seed) (draw (draw seed)) (draw (draw (draw seed)))
    go (tested s q) = q ∙ ap told_drawn (by_three (view k) seed (profile_of p) (sym (code_same q) ∙ e))
    go (unsound s q) = absurd (omega (arith, code_same q))

-- The same on the tables: what is chosen looks at the machine that they show, and at no more.
pub made_read : (k : Kernel) (seed : ℕ) (p : Profile)
    → made_in k.base k.ready k.held k.way k.ceiling k.waiter k.clock seed p
    ≡ made_of k p (draw seed) (draw (draw seed)) (draw (draw (draw seed)))
unfolding view chosen_of chosen menu
made_read k seed p = refl

-- A seed of 32 bits that is not 0 never dies: what is left behind is again such a seed.
pub seed_never_dies : (k : Kernel) (seed : ℕ) (p : Profile) → seed < 2 ^ 32 → seed ≢ 0 → ((drawn_of k seed p).seed < 2 ^ 32) × ((drawn_of k seed p).seed ≢ 0)
seed_never_dies k seed p h n = go (ways k seed p)
  where
    go : Tested k seed p → ((drawn_of k seed p).seed < 2 ^ 32) × ((drawn_of k seed p).seed ≢ 0)
    go (tested s q) = rw q (seed_lives (view k) seed (profile_of p) h n)
    go (unsound s q) = rw q (h, n)

-- ## A run is a seed
-- What a run of draws asks of the state and the seed where it begins, and has again behind each draw and its step.
pub record Going (k : Kernel) (seed : ℕ) : Type 0 where
  pub sound : is_sound k ≡ true
  pub on : k.started ≡ true
  pub small : seed < 2 ^ 32
  pub alive : seed ≢ 0

going_draw : (k : Kernel) (seed : ℕ) (p : Profile) → Going k seed → good_profile (profile_of p) ≡ true → (drawn_of k seed p).code ≡ 0
going_draw k seed p g good = code_in_order k seed p ∙ rw (g.sound, ne_eqb seed 0 g.alive, good, g.on)

stays_on : (m : Machine) → m.started ≡ true → (e : Effect) → (carry m e).started ≡ true
unfolding carry
stays_on m on nothing = on
stays_on m on (creates t p) = on
stays_on m on (declares o p) = on
stays_on m on begins = refl
stays_on m on (moves out rel n) = moved_started out rel m ∙ on

next_on : (m : Machine) → Sound m → m.started ≡ true → (c : rules.Command) → (next m c).started ≡ true
next_on m s on c = go (step m s c)
  where
    go : Step m c → (next m c).started ≡ true
    go (kept e f w) = rw e on
    go (carried e f w g) = rw e (stays_on m on (effect m c))

step_on : (k : Kernel) → is_sound k ≡ true → k.started ≡ true → (c : Command) → (stepped k c).next.started ≡ true
unfolding step_of encode view
step_on k s on c = rw s (next_on (view k) (stands k s).machine on (to_rules c))

going_on : (k : Kernel) (seed : ℕ) (p : Profile) → Going k seed → Going (stepped k (drawn_of k seed p).command).next (drawn_of k seed p).seed
going_on k seed p g =
    let c = (drawn_of k seed p).command in
    let w = seed_never_dies k seed p g.small g.alive in
    record { sound = step_sound k (to_rules c) g.sound; on = step_on k g.sound g.on c; small = w.0; alive = w.1 }

-- From a sound started state, a seed 1..2^32-1 and a valid profile, draws go on for ever: behind any number of them, each with its step,
-- the next draw is accepted and the step accepts what it draws. So no run of draws meets 1, 17, 18 or 2 in its middle.
pub draws_go_on : (n : ℕ) (k : Kernel) (seed : ℕ) (p : Profile) → Going k seed → good_profile (profile_of p) ≡ true
    → let e = draws_of n k seed p in ((drawn_of e.0 e.1 p).code ≡ 0) × ((stepped e.0 (drawn_of e.0 e.1 p).command).answer.code ≡ 0)
unfolding draws_of
draws_go_on zero k seed p g good = let e = going_draw k seed p g good in (e, drawn_accepted k seed p e)
draws_go_on (suc n) k seed p g good = draws_go_on n (stepped k (drawn_of k seed p).command).next (drawn_of k seed p).seed p (going_on k seed p g) good

-- ## Document 01's numbers
-- `seed 1 span 100 weights 10 10 10 10 10 10 10 10`, behind the five set-up lines of the walk: the drawn delay 39, and the third draw left as the seed.
pub draws_39 : drawn_of (encode (run fresh set_up)) 1 (record { span = 100; weights = 10 ∷ 10 ∷ 10 ∷ 10 ∷ 10 ∷ 10 ∷ 10 ∷ 10 ∷ [] })
    ≡ record { code = 0; command = record { op = 4; a = 0; b = 0; value = 39 }; seed = 2647435461 }
unfolding drawn_of drawn_in
draws_39 = let s = run_sound set_up fresh fresh_sound in rw (encode_sound (run fresh set_up) s, view_encode (run fresh set_up) s, drawn_delay)
