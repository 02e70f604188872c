-- What is promised of a draw over document 01's machine, each in plain words and then in antt. Assumes nothing.
use Prim.Native.Nat.{ℕ, zero, suc, ◌+◌, ◌-◌, ◌%◌, ◌≤◌, ◌<◌, ◌^◌}
use native.Mathlib.Omega.{arith}
use native.Mathlib.Nat.{mod-lt, add-mod_right, mod-eq_of_lt}
use mathlib.Core.Path.{◌≡◌, refl, sym, ap, subst, ◌∙◌}
use mathlib.Core.Logic.{◌≢◌, ◌↔◌, ◌⊎◌}
use mathlib.Core.Bool.{Bool, true, false, cond, not, ◌&&◌}
use mathlib.Core.List.{List, [], ◌∷◌, ◌++◌}
use lib.Dec.{eqb, leb, ltb}
use lib.ListN.{get_or, length, get_or-eq_default}
use borrow.Author.Tests.{eqb-true, eqb-false, leb-true, ltb-true, ltb-false, not-false}
use Rattle.rules.specs.Line.{at, within, every}
use Rattle.rules.specs.Machine.{Machine, Command, fresh}
use Rattle.rules.specs.Table.{carry, leave, release}
use Rattle.rules.specs.Refusals.{refusal}
use Rattle.rules.specs.Sound.{sound}
use Rattle.rules.specs.Run.{next, run}
use Rattle.rules.proofs.Words.{cmd}
use Rattle.rules.proofs.Tests.{both_true}
use Rattle.rules.proofs.Sounds.{tests_sound}
use Rattle.rules.proofs.Walk.{set_up}
use Rattle.generator_draws.specs.Xorshift.{draw}
use Rattle.generator_draws.specs.Menu.{Offer, menu, span_fits}
use Rattle.generator_draws.specs.Below.{Choice, Chooser, remainder, limit, even, plain, if_needed}
use Rattle.generator_draws.specs.Draw.{Profile, good_profile, weighed_menu, total, choose, filled, Made, made_by, no_command, no_offer, draw_refusal}
use Rattle.generator_draws.specs.Draw.{Spending, drawn_by}
use Rattle.generator_draws.specs.Draw.{remainder_if_needed, command_by, chosen, Drawn, drawn}
use Rattle.generator_draws.proofs.Chooses.{times, times_add, Chooses, remainder_chooses, at_once, needed_chooses}
use Rattle.generator_draws.proofs.Choice.{choose_all, ahead, chosen_by, entry, weighed, weigh_all, total_has, total_small}
use Rattle.generator_draws.proofs.Legal.{Fits, Right, legal_right}
use Rattle.generator_draws.proofs.Exact.{legal_exactly}
use Rattle.generator_draws.proofs.Undone.{draw_fits, draw_lives}

-- the offer with that index: 0 for delay (op 4), up to 7 for done (op 11)
abbrev offer_at : Machine → Profile → ℕ → Offer
offer_at m p i = get_or (menu m p.span) i no_offer

-- What is drawn: a command that the machine accepts; of an op 4..11 whose weight is not 0; with operands that fit their bytes.
pub record Fine (m : Machine) (p : Profile) (c : Command) : Type 0 where
  pub accepted : refusal m c ≡ 0
  pub op : (4 ≤ c.op) × (c.op ≤ 11)
  pub weight : 1 ≤ at p.weights (c.op - 4)
  pub fits : (c.a < 8) × (c.b < 2) × (c.value < 2 ^ 64)

menu_eight : (m : Machine) (span : ℕ) → length (menu m span) ≡ 8
unfolding menu
menu_eight m span = refl

menu_op : (m : Machine) (span i x y : ℕ) → i < 8 → ((get_or (menu m span) i no_offer).command x y).op ≡ i + 4
unfolding menu
menu_op m span zero x y h = refl
menu_op m span (suc zero) x y h = refl
menu_op m span (suc (suc zero)) x y h = refl
menu_op m span (suc (suc (suc zero))) x y h = refl
menu_op m span (suc (suc (suc (suc zero)))) x y h = refl
menu_op m span (suc (suc (suc (suc (suc zero))))) x y h = refl
menu_op m span (suc (suc (suc (suc (suc (suc zero)))))) x y h = refl
menu_op m span (suc (suc (suc (suc (suc (suc (suc zero))))))) x y h = refl
menu_op m span (suc (suc (suc (suc (suc (suc (suc (suc i)))))))) x y h = absurd (omega arith)

-- inside a list the default does not matter
inside_same : (l : List Offer) (i : ℕ) (o q : Offer) → i < length l → get_or l i o ≡ get_or l i q
inside_same [] i o q h = absurd (omega arith)
inside_same (x ∷ l) zero o q h = refl
inside_same (x ∷ l) (suc i) o q h = inside_same l i o q (omega arith)

-- L is above each number below S
under_limit : (a sum r : ℕ) → a < sum → sum ≤ 800 → r < sum → a < 4294967295 - r
under_limit a sum r h g k = omega arith

module _ (m : Machine) (p : Profile) (s : sound m ≡ true) (on : m.started ≡ true) (good : good_profile p ≡ true) where
  in_range : (within 1 1000000 p.span ≡ true) × (1 ≤ at p.weights 1)
  in_range =
      let g = both_true (within 1 1000000 p.span && every (λ w. leb w 100) p.weights) (leb 1 (at p.weights 1)) good in
      ((both_true (within 1 1000000 p.span) (every (λ w. leb w 100) p.weights) g.0).0, leb-true _ _ g.1)

  spans : 1 ≤ p.span
  spans = leb-true _ _ (both_true (leb 1 p.span) (leb p.span 1000000) in_range.0).0

  in_hundred : every (λ w. leb w 100) p.weights ≡ true
  in_hundred =
      (both_true (within 1 1000000 p.span) (every (λ w. leb w 100) p.weights)
      (both_true (within 1 1000000 p.span && every (λ w. leb w 100) p.weights) (leb 1 (at p.weights 1)) good).0).1

  inside_weights : (i : ℕ) → 1 ≤ at p.weights i → i < length p.weights
  inside_weights i h = go (ltb i (length p.weights)) refl
    where
      go : (b : Bool) → ltb i (length p.weights) ≡ b → i < length p.weights
      go true e = ltb-true _ _ e
      go false e = absurd (omega (arith, get_or-eq_default p.weights 0 {n = i} (ltb-false _ _ e)))

  -- S is at least 1: Wake is always legal, and its weight is not 0.
  pub sum_at_least_one : 1 ≤ total (weighed_menu m p)
  unfolding menu
  sum_at_least_one =
      let w = weighed (menu m p.span) p.weights 1 no_offer (inside_weights 1 in_range.1) (omega arith) in
      omega (arith, in_range.1, total_has (weighed_menu m p) 1, ap (λ (x : ℕ × Offer). x.0) w)

  -- what holds of every offer that is legal and weighs something holds of the one that a number below S chooses
  of_picked : (P : Offer → Type 0) → ((i : ℕ) → i < 8 → 1 ≤ at p.weights i → (offer_at m p i).legal ≡ true → P (offer_at m p i))
      → (d : ℕ) → d < total (weighed_menu m p) → P (choose d 0 (weighed_menu m p))
  of_picked P f d h =
      choose_all P d 0 (weighed_menu m p)
      (weigh_all (λ i o. P o) (menu m p.span) p.weights
      (λ i o k w e. let z : i < 8 = omega (arith, menu_eight m p.span) in subst P (same_entry i o k)
      (f i z w (ap (λ (y : Offer). y.legal) (same_entry i o k) ∙ e)))
      P (λ i o w. w))
      (omega arith) (omega arith)
    where
      same_entry : (i : ℕ) (o : Offer) → i < length (menu m p.span) → offer_at m p i ≡ get_or (menu m p.span) i o
      same_entry i o k = inside_same (menu m p.span) i no_offer o k

  -- by any numbers that fit, what is chosen is fine
  fine : (d x y : ℕ) → d < total (weighed_menu m p) → let o = choose d 0 (weighed_menu m p) in Fits o.operand x → Fits (o.barrier x) y
      → Fine m p (o.command x y)
  fine d x y h =
      of_picked (λ o. Fits o.operand x → Fits (o.barrier x) y → Fine m p (o.command x y))
      (λ i k w e u v. of_kind i ((offer_at m p i).command x y) k w (legal_right m ((tests_sound m).sure s) on p.span spans i no_offer k e x y u v)) d h
    where
      of_kind : (i : ℕ) (c : Command) → i < 8 → 1 ≤ at p.weights i → Right m ((tests_sound m).sure s) on i c → Fine m p c
      of_kind i c h w r =
          let z : c.op - 4 ≡ i = omega (arith, r.op) in
          record { accepted = r.accepted; op = (omega (arith, r.op), omega (arith, r.op)); weight = rw z w; fits = r.fits }

  -- A command made by a chooser of either edition is fine.
  made_fine : (choice : Chooser) → Chooses choice → (seed : ℕ) → Fine m p (made_by choice m seed p).command
  unfolding made_by
  made_fine choice k seed =
      let l = weighed_menu m p in
      let kind = choice (total l) seed in
      let o = choose kind.number 0 l in
      let operand = if_needed choice o.operand kind.seed in
      fine kind.number operand.number (if_needed choice (o.barrier operand.number) operand.seed).number ((k (total l) seed).below sum_at_least_one)
      (needed_chooses choice k o.operand kind.seed).below (needed_chooses choice k (o.barrier operand.number) operand.seed).below

  -- Each legal kind of positive weight is chosen by some number below S,
  number_for : (i : ℕ) → i < 8 → (offer_at m p i).legal ≡ true → 1 ≤ at p.weights i
      → let l = weighed_menu m p in (ahead l i < total l) × (choose (ahead l i) 0 l ≡ offer_at m p i)
  number_for i h e w =
      let l = weighed_menu m p in
      let q : entry l i ≡ (at p.weights i, offer_at m p i) = rw e at
      (weighed (menu m p.span) p.weights i no_offer (inside_weights i w) (omega (arith, menu_eight m p.span))) in
      let c = chosen_by l i 0 (omega (arith, ap (λ (x : ℕ × Offer). x.0) q)) in
      let z : 0 + ahead l i ≡ ahead l i = omega arith in
      (c.0, rw z at c.1 ∙ ap (λ (x : ℕ × Offer). x.1) q)

  sum_small : total (weighed_menu m p) ≤ 800
  sum_small = omega (arith, total_small (menu m p.span) p.weights in_hundred, menu_eight m p.span)

  op_at : (i x y : ℕ) → i < 8 → ((offer_at m p i).command x y).op ≡ i + 4
  op_at i x y h = menu_op m p.span i x y h

  -- and so it is drawn by some first draw, found before the second and the third: whatever these are. Edition 1.
  -- (A draw is never 0, so the number found is not.) Rules out: a generator that always says wake.
  pub each_kind_drawn : (i : ℕ) → i < 8 → (offer_at m p i).legal ≡ true → 1 ≤ at p.weights i
      → (d1 : ℕ) × (1 ≤ d1) × (d1 < 2 ^ 32) × ((d2 d3 : ℕ) → (chosen m p d1 d2 d3 ≡ command_by (offer_at m p i) d2 d3) × ((chosen m p d1 d2 d3).op ≡ i + 4))
  unfolding chosen
  each_kind_drawn i h e w =
      let l = weighed_menu m p in
      let c = number_for i h e w in
      let same : (ahead l i + total l) % total l ≡ ahead l i = add-mod_right (ahead l i) (total l) ∙ mod-eq_of_lt c.0 in
      let found : choose ((ahead l i + total l) % total l) 0 l ≡ offer_at m p i = rw same c.1 in (
        ahead l i + total l,
        omega (arith, c.0),
        omega (arith, c.0, sum_small),
        λ d2 d3. (ap (λ (o : Offer). command_by o d2 d3) found, ap (λ (o : Offer). (command_by o d2 d3).op) found ∙ op_at i _ _ h),
      )

  -- Edition 2: the first draw is taken at once, since d1 - 1 is below L; the other choices are made from it, whatever they are. (That some seed has this first
  -- draw is not said: it would be that a draw is onto.)
  pub each_kind_drawn_evenly : (i : ℕ) → i < 8 → (offer_at m p i).legal ≡ true → 1 ≤ at p.weights i
      → let l = weighed_menu m p in (d1 : ℕ) × (1 ≤ d1) × (d1 < 2 ^ 32) × (d1 - 1 < limit (total l)) × (choose ((d1 - 1) % total l) 0 l ≡ offer_at m p i)
      × ((seed : ℕ) → draw seed ≡ d1 → made_by even m seed p ≡ filled even (offer_at m p i) (record { number = (d1 - 1) % total l; seed = d1; spent = 1 }))
  unfolding made_by
  each_kind_drawn_evenly i h e w =
      let l = weighed_menu m p in
      let c = number_for i h e w in
      let same : ahead l i % total l ≡ ahead l i = mod-eq_of_lt c.0 in
      let back : suc (ahead l i) - 1 ≡ ahead l i = omega arith in
      let under : ahead l i < limit (total l) = under_limit (ahead l i) (total l) (4294967295 % total l) c.0 sum_small
      (mod-lt 4294967295 sum_at_least_one) in
      let found : choose (ahead l i % total l) 0 l ≡ offer_at m p i = rw same c.1 in
      let under-1 : suc (ahead l i) - 1 < limit (total l) = rw back under in
      let found-1 : choose ((suc (ahead l i) - 1) % total l) 0 l ≡ offer_at m p i = rw back found in (
        suc (ahead l i),
        omega arith,
        omega (arith, c.0, sum_small),
        under-1,
        found-1,
        λ seed q. ap (λ (kind : Choice). filled even (choose kind.number 0 l) kind) (at_once (total l) seed (suc (ahead l i)) q under-1)
            ∙ ap (λ (o : Offer). filled even o (record { number = (suc (ahead l i) - 1) % total l; seed = suc (ahead l i); spent = 1 })) found-1,
      )

-- ## What is legal
-- A kind is legal exactly where the machine would accept some command of its op; delay and advance (the kinds 0 and 2) only if the span fits, too.
-- Rules out: an open or an entry that is never legal, an object whose ceiling is the runner's base left out, a closing kind of the wrong way.
-- Leaves: which of the eligible objects is named (the definition of the menu).
pub legal_is : (m : Machine) (p : Profile) → sound m ≡ true → m.started ≡ true → 1 ≤ p.span → (i : ℕ) → i < 8
    → ((offer_at m p i).legal ≡ true) ↔ (((i ≡ 0) ⊎ (i ≡ 2) → span_fits m p.span ≡ true) × ((c : Command) × (c.op ≡ i + 4) × (refusal m c ≡ 0)))
legal_is m p s on fits i h = legal_exactly m ((tests_sound m).sure s) on p.span fits i no_offer h

-- What an accepted draw has shown.
drawing : (m : Machine) (seed : ℕ) (p : Profile) → draw_refusal m seed p ≡ 0 → (seed ≢ 0) × (good_profile p ≡ true) × (m.started ≡ true)
unfolding draw_refusal
drawing m seed p e = go (eqb seed 0) refl (not (good_profile p)) refl (not m.started) refl e
  where
    go : (a : Bool) → eqb seed 0 ≡ a → (b : Bool) → not (good_profile p) ≡ b → (c : Bool) → not m.started ≡ c
        → ◌≡◌ {A = ℕ} (cond a 17 (cond b 18 (cond c 2 0))) 0 → (seed ≢ 0) × (good_profile p ≡ true) × (m.started ≡ true)
    go true u b v c w k = absurd (omega arith)
    go false u true v c w k = absurd (omega arith)
    go false u false v true w k = absurd (omega arith)
    go false u false v false w k = (eqb-false _ _ u, not-false _ v, not-false _ w)

-- The two ways of a draw, of either edition.
pub data Way (choice : Chooser) (m : Machine) (seed : ℕ) (p : Profile) : Type 0 where
  refused : (n : ℕ) → n ≢ 0 → drawn_by choice m seed p ≡ record { code = n; command = no_command; seed = seed; spent = 0 } → Way choice m seed p
  made : (seed ≢ 0) × (good_profile p ≡ true) × (m.started ≡ true)
      → (let d = made_by choice m seed p in drawn_by choice m seed p ≡ record { code = 0; command = d.command; seed = d.seed; spent = d.spent })
      → Way choice m seed p

way : (choice : Chooser) (m : Machine) (seed : ℕ) (p : Profile) → Way choice m seed p
unfolding drawn_by
way choice m seed p = go (eqb (draw_refusal m seed p) 0) refl
  where
    go : (b : Bool) → eqb (draw_refusal m seed p) 0 ≡ b → Way choice m seed p
    go true e = made (drawing m seed p (eqb-true _ _ e)) (rw e)
    go false e = refused (draw_refusal m seed p) (eqb-false _ _ e) (rw e)

-- ## The theorems, of both editions
-- Every drawn command is accepted by the machine, from every sound state, every seed and every profile, unless the draw itself is refused;
-- it is of an op 4..11 whose weight is not 0; and its operands fit their bytes.
-- Rules out: a delay drawn while inside an object, an entry with barrier 0 on an object with a waiter, a closing command of the wrong way.
-- Leaves: a generator that always says wake (each-kind-drawn, above), and one that refuses every draw (the definition of draw-refusal).
pub drawn_by_is_fine : (choice : Chooser) → Chooses choice → (m : Machine) (seed : ℕ) (p : Profile) → sound m ≡ true
    → (drawn_by choice m seed p).code ≡ 0 → Fine m p (drawn_by choice m seed p).command
drawn_by_is_fine choice k m seed p s e = go (way choice m seed p)
  where
    go : Way choice m seed p → Fine m p (drawn_by choice m seed p).command
    go (refused n ne q) = absurd (ne (sym (ap (λ (d : Spending). d.code) q) ∙ e))
    go (made g q) = rw q (made_fine m p s g.2 g.1 choice k seed)

-- The seed left behind is the draw applied as often as is told, 3 to 24 times.
-- Rules out: fewer draws where an operand is not needed, and a count that is not that of the draws.
made_spent : (choice : Chooser) → Chooses choice → (m : Machine) (seed : ℕ) (p : Profile)
    → let d = made_by choice m seed p in (d.seed ≡ times d.spent seed) × (3 ≤ d.spent) × (d.spent ≤ 24)
unfolding made_by
made_spent choice k m seed p =
    let l = weighed_menu m p in
    let kind = choice (total l) seed in
    let o = choose kind.number 0 l in
    let operand = if_needed choice o.operand kind.seed in
    let barrier = if_needed choice (o.barrier operand.number) operand.seed in
    let a = k (total l) seed in
    let b = needed_chooses choice k o.operand kind.seed in
    let c = needed_chooses choice k (o.barrier operand.number) operand.seed in (
      c.left ∙ ap (times barrier.spent) (b.left ∙ ap (times operand.spent) a.left)
          ∙ ap (times barrier.spent) (times_add kind.spent operand.spent seed) ∙ times_add (kind.spent + operand.spent) barrier.spent seed,
      omega (arith, a.least, b.least, c.least),
      omega (arith, a.most, b.most, c.most),
    )

pub seed_spent : (choice : Chooser) → Chooses choice → (m : Machine) (seed : ℕ) (p : Profile) → let d = drawn_by choice m seed p in
    d.code ≡ 0 → (d.seed ≡ times d.spent seed) × (3 ≤ d.spent) × (d.spent ≤ 24)
seed_spent choice k m seed p e = go (way choice m seed p)
  where
    go : Way choice m seed p → let d = drawn_by choice m seed p in (d.seed ≡ times d.spent seed) × (3 ≤ d.spent) × (d.spent ≤ 24)
    go (refused n ne q) = absurd (ne (sym (ap (λ (d : Spending). d.code) q) ∙ e))
    go (made g q) = rw q (made_spent choice k m seed p)

-- A refused draw makes none: it leaves the seed, and answers op 0 with zero operands. Rules out: a refused draw that advances the seed.
pub refused_makes_none : (choice : Chooser) (m : Machine) (seed : ℕ) (p : Profile) → let d = drawn_by choice m seed p in
    d.code ≢ 0 → (d.seed ≡ seed) × (d.command ≡ no_command) × (d.spent ≡ 0)
refused_makes_none choice m seed p n = go (way choice m seed p)
  where
    go : Way choice m seed p → let d = drawn_by choice m seed p in (d.seed ≡ seed) × (d.command ≡ no_command) × (d.spent ≡ 0)
    go (refused c k q) = (ap (λ (d : Spending). d.seed) q, ap (λ (d : Spending). d.command) q, ap (λ (d : Spending). d.spent) q)
    go (made g q) = absurd (n (ap (λ (d : Spending). d.code) q))

-- From a seed of 32 bits that is not 0 no draw is ever 0.
pub times_live : (n seed : ℕ) → seed < 2 ^ 32 → seed ≢ 0 → (times n seed < 2 ^ 32) × (times n seed ≢ 0)
times_live zero seed h n = (h, n)
times_live (suc k) seed h n = times_live k (draw seed) (draw_fits seed h) (draw_lives seed h n)

pub seed_spent_lives : (choice : Chooser) → Chooses choice → (m : Machine) (seed : ℕ) (p : Profile) → seed < 2 ^ 32 → seed ≢ 0
    → let d = drawn_by choice m seed p in (d.seed < 2 ^ 32) × (d.seed ≢ 0)
seed_spent_lives choice k m seed p h n = go (way choice m seed p)
  where
    go : Way choice m seed p → let d = drawn_by choice m seed p in (d.seed < 2 ^ 32) × (d.seed ≢ 0)
    go (refused c ne q) = rw q (h, n)
    go (made g q) = let w = made_spent choice k m seed p in rw (q, w.0) (times_live (made_by choice m seed p).spent seed h n)

-- ## Edition 1
-- Three draws are made, used or not, and the command is the one that they choose by their remainders.
needed_remainder : (n seed : ℕ) → if_needed remainder n seed ≡ record { number = remainder_if_needed n (draw seed); seed = draw seed; spent = 1 }
needed_remainder n seed = go (eqb n 0)
  where
    go : (b : Bool) → cond b (plain seed) (remainder n seed) ≡ record { number = cond b 0 (draw seed % n); seed = draw seed; spent = 1 }
    go true = refl
    go false = refl

pub made_by_three : (m : Machine) (seed : ℕ) (p : Profile) → let d1 = draw seed in let d2 = draw d1 in let d3 = draw d2 in
    made_by remainder m seed p ≡ record { command = chosen m p d1 d2 d3; seed = d3; spent = 3 }
unfolding made_by chosen
made_by_three m seed p =
    let l = weighed_menu m p in
    let o = choose (draw seed % total l) 0 l in
    let d2 = draw (draw seed) in
    rw (needed_remainder o.operand (draw seed), needed_remainder (o.barrier (remainder_if_needed o.operand d2)) d2)

pub drawn_is : (m : Machine) (seed : ℕ) (p : Profile) → let d1 = draw seed in let d2 = draw d1 in let d3 = draw d2 in
    drawn m seed p
    ≡ cond (eqb (draw_refusal m seed p) 0) (record { code = 0; command = chosen m p d1 d2 d3; seed = d3 })
    (record { code = draw_refusal m seed p; command = no_command; seed = seed })
unfolding drawn drawn_by
drawn_is m seed p = rw (made_by_three m seed p) (go (eqb (draw_refusal m seed p) 0))
  where
    go : (b : Bool) → let d1 = draw seed in let d2 = draw d1 in let d3 = draw d2 in
        let d : Spending = cond b (record { code = 0; command = chosen m p d1 d2 d3; seed = d3; spent = 3 })
        (record { code = draw_refusal m seed p; command = no_command; seed = seed; spent = 0 }) in
        (let r : Drawn = record { code = d.code; command = d.command; seed = d.seed } in r)
        ≡ cond b (record { code = 0; command = chosen m p d1 d2 d3; seed = d3 }) (record { code = draw_refusal m seed p; command = no_command; seed = seed })
    go true = refl
    go false = refl

pub drawn_is_fine : (m : Machine) (seed : ℕ) (p : Profile) → sound m ≡ true → (drawn m seed p).code ≡ 0 → Fine m p (drawn m seed p).command
unfolding drawn
drawn_is_fine m seed p s e = drawn_by_is_fine remainder remainder_chooses m seed p s e

-- The seed left behind is the third draw; a refused draw leaves the seed, and answers op 0 with zero operands.
-- Rules out: fewer draws where an operand is not needed, and a refused draw that advances the seed.
pub seed_left : (m : Machine) (seed : ℕ) (p : Profile) → (drawn m seed p).code ≡ 0 → (drawn m seed p).seed ≡ draw (draw (draw seed))
unfolding drawn
seed_left m seed p e = go (way remainder m seed p)
  where
    go : Way remainder m seed p → (drawn_by remainder m seed p).seed ≡ draw (draw (draw seed))
    go (refused n k q) = absurd (k (sym (ap (λ (d : Spending). d.code) q) ∙ e))
    go (made g q) = ap (λ (d : Spending). d.seed) q ∙ ap (λ (d : Made). d.seed) (made_by_three m seed p)

pub refused_draw : (m : Machine) (seed : ℕ) (p : Profile) → (drawn m seed p).code ≢ 0 → ((drawn m seed p).seed ≡ seed) × ((drawn m seed p).command ≡ no_command)
unfolding drawn
refused_draw m seed p n = let w = refused_makes_none remainder m seed p n in (w.0, w.1)

-- A seed of 32 bits that is not 0 never dies: no draw from it is 0, and so 17 is never met in the middle of a run.
pub seed_lives : (m : Machine) (seed : ℕ) (p : Profile) → seed < 2 ^ 32 → seed ≢ 0 → ((drawn m seed p).seed < 2 ^ 32) × ((drawn m seed p).seed ≢ 0)
unfolding drawn
seed_lives m seed p h n = seed_spent_lives remainder remainder_chooses m seed p h n

-- ## Document 01's numbers
-- From seed 1 the draws 270369, 67634689, 2647435461; the signed reading of the last, -1647531835, is no number here.
pub first_draws : draw 1 ∷ draw (draw 1) ∷ draw (draw (draw 1)) ∷ [] ≡ 270369 ∷ 67634689 ∷ 2647435461 ∷ []
unfolding draw
first_draws = refl

-- The drawn delay 39: `seed 1 span 100 weights 10 10 10 10 10 10 10 10`, after the five set-up lines of the walk.
abbrev pub tens : Profile
tens = record { span = 100; weights = 10 ∷ 10 ∷ 10 ∷ 10 ∷ 10 ∷ 10 ∷ 10 ∷ 10 ∷ [] }

pub drawn_delay : drawn (run fresh set_up) 1 tens ≡ record { code = 0; command = cmd 4 0 0 39; seed = 2647435461 }
unfolding drawn drawn_by made_by draw_refusal menu draw run next refusal carry leave release
drawn_delay = refl

-- ## The barrier of done (request 2)
-- Inside an entry, by `weights 0 1 0 0 0 0 0 100`: done is drawn with barrier 1 where the third draw is odd (seed 8, whose first two are even), with 0
-- where it is even (seed 9, whose first two are odd); and so where a task waits on the object.
-- Rules out: a generator that never lets an entry's end serve the waiter, or always does; the bit of another draw; the entry's exception, 1 where a
-- task waits, taken for done's. Leaves: how often (the weights).
abbrev pub entered : Machine
entered = run fresh (set_up ++ (cmd 4 0 0 10 ∷ cmd 10 1 1 0 ∷ []))

abbrev entered_behind_a_waiter : Machine
entered_behind_a_waiter = run fresh (set_up ++ (cmd 4 0 0 10 ∷ cmd 10 1 0 0 ∷ cmd 10 1 1 0 ∷ []))

abbrev pub mostly_done : Profile
mostly_done = record { span = 100; weights = 0 ∷ 1 ∷ 0 ∷ 0 ∷ 0 ∷ 0 ∷ 0 ∷ 100 ∷ [] }

pub drawn_done : (drawn entered 8 mostly_done ≡ record { code = 0; command = cmd 11 1 1 0; seed = 2791531049 })
    × (drawn entered 9 mostly_done ≡ record { code = 0; command = cmd 11 1 0 0; seed = 1001376492 })
    × (drawn entered_behind_a_waiter 9 mostly_done ≡ record { code = 0; command = cmd 11 1 0 0; seed = 1001376492 })
unfolding drawn drawn_by made_by draw_refusal menu draw run next refusal carry leave release
drawn_done = (refl, refl, refl)
