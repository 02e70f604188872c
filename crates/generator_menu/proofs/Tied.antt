-- The tables tied to the machine that they show: what a draw looks at, the choice by an index, and the offer that stands there, by the menu's columns.
-- Then the command of each edition, as the code puts it together, is the definitions'. Assumes nothing.
use Prim.Native.Nat.{ℕ, zero, suc, ◌+◌, ◌-◌, ◌%◌, ◌≤◌, ◌<◌, ◌^◌}
use native.Mathlib.Omega.{arith}
use native.Mathlib.Nat.{mod-lt, mod-eq_of_lt}
use mathlib.Core.Path.{◌≡◌, refl, sym, ap, subst, ◌∙◌}
use mathlib.Core.Bool.{Bool, true, false, cond, not, ◌&&◌}
use mathlib.Core.List.{List, [], ◌∷◌}
use lib.Dec.{eqb, ltb}
use lib.ListN.{length, get_or, drop, drop_of_length-le}
use lib.Seq.{drop-cons}
use borrow.Author.Tests.{ltb-true, ltb-false, lt-ltb, le-ltb, ne_eqb}
use Rattle.rules.specs.Line.{at, empty}
use Rattle.rules.specs.Machine.{Machine, runner, for_open, for_entry}
use Rattle.rules.proofs.Tests.{both_true}
use Rattle.kernel_ready.proofs.Laws.{front_idle}
use Rattle.kernel_checks.proofs.Rows.{none_waits}
use Rattle.kernel_checks.specs.declared.Command.{Command}
use Rattle.kernel_checks.specs.Shown.{shown}
use Rattle.generator_draws.specs.Below.{even, if_needed}
use Rattle.generator_draws.specs.Menu.{Offer, menu, span_fits, free_runner, inside, hand, eligibles, quiet}
use Rattle.generator_draws.specs.Draw.{weigh, total, choose, chosen, made_by, no_offer, remainder_if_needed, command_by}
use Rattle.generator_draws.proofs.Chooses.{even_chooses, needed_chooses}
use Rattle.generator_lent.specs.declared.Choice.{Choice}
use Rattle.generator_lent.specs.Lent.{told_choice}
use Rattle.generator_menu.specs.declared.Sight.{Sight}
use Rattle.generator_menu.specs.declared.Made.{Made}
use Rattle.generator_menu.specs.Public.{told_command, chosen_of, evenly_of}
use Rattle.generator_menu.specs.Tables.{sight_in, worths_of, sum_of, index_of, operand_at, object_at, quiet_at, barrier_at, command_at, finished_at}

-- ## What a draw looks at
some_read : (l : List ℕ) → not (empty l) ≡ not (eqb (length l) 0)
some_read [] = refl
some_read (x ∷ l) = rw (ne_eqb (suc (length l)) 0 (λ e. omega arith))

-- What a draw looks at, of the machine; and the tables say the same.
unfoldable sight_of : Machine → ℕ → Sight
sight_of m span =
    record {
      free = free_runner m;
      opened = inside m for_open;
      entered = inside m for_entry;
      hand = hand m;
      level = at m.base (runner m);
      count = length (eligibles m);
      room = span_fits m span;
    }

seen : (base ready held way ceiling waiter : List ℕ) (clock span : ℕ)
    → sight_of (shown base ready held way ceiling waiter clock true) span ≡ sight_in base ready held way ceiling clock span
unfolding sight_of sight_in
seen base ready held way ceiling waiter clock span = rw (front_idle ready)

-- ## The choice by an index
abbrev weights_of : List (ℕ × Offer) → List ℕ
weights_of [] = []
weights_of (x ∷ l) = x.0 ∷ weights_of l

abbrev offers_of : List (ℕ × Offer) → List Offer
offers_of [] = []
offers_of (x ∷ l) = x.1 ∷ offers_of l

total_sum : (l : List (ℕ × Offer)) → total l ≡ sum_of (weights_of l)
unfolding sum_of
total_sum [] = refl
total_sum (x ∷ l) = ap (λ (n : ℕ). x.0 + n) (total_sum l)

-- The first whose running sum exceeds d stands at the index of the first weight that d, less the weights before it, is below.
choose_at : (l : List (ℕ × Offer)) (e sum d : ℕ) → e ≡ sum + d → choose e sum l ≡ get_or (offers_of l) (index_of d (weights_of l)) no_offer
unfolding index_of
choose_at [] e sum d h = refl
choose_at (x ∷ l) e sum d h = go (ltb d x.0) refl (choose_at l e (sum + x.0) (d - x.0))
  where
    go : (b : Bool) → ltb d x.0 ≡ b
        → (e ≡ sum + x.0 + (d - x.0) → choose e (sum + x.0) l ≡ get_or (offers_of l) (index_of (d - x.0) (weights_of l)) no_offer)
        → cond (ltb e (sum + x.0)) x.1 (choose e (sum + x.0) l)
        ≡ get_or (x.1 ∷ offers_of l) (cond b 0 (suc (index_of (d - x.0) (weights_of l)))) no_offer
    go true q r = let w : d < x.0 = ltb-true _ _ q in rw (lt-ltb e (sum + x.0) (omega arith))
    go false q r = let w : x.0 ≤ d = ltb-false _ _ q in rw (le-ltb e (sum + x.0) (omega arith)) (r (omega arith))

-- A list of eight is its entries.
abbrev spell : List ℕ → ℕ → ℕ → List ℕ
spell l zero i = []
spell l (suc n) i = at l i ∷ spell l n (suc i)

spelled : (l : List ℕ) (n i : ℕ) → i + n ≡ length l → drop i l ≡ spell l n i
spelled l zero i h = let k : length l ≤ i = omega arith in drop_of_length-le l k
spelled l (suc n) i h = let k : i < length l = omega arith in drop-cons l i 0 k ∙ ap (λ (r : List ℕ). at l i ∷ r) (spelled l n (suc i) (omega arith))

module _ (m : Machine) (span : ℕ) where
  abbrev Weighs : List ℕ → Type 0
  Weighs w = (weights_of (weigh (menu m span) w) ≡ worths_of (sight_of m span) w) × (offers_of (weigh (menu m span) w) ≡ menu m span)

  weighs_eight : (w0 w1 w2 w3 w4 w5 w6 w7 : ℕ) → Weighs (w0 ∷ w1 ∷ w2 ∷ w3 ∷ w4 ∷ w5 ∷ w6 ∷ w7 ∷ [])
  unfolding menu worths_of sight_of
  weighs_eight w0 w1 w2 w3 w4 w5 w6 w7 = (rw (some_read (eligibles m)), refl)

  weighs : (w : List ℕ) → length w ≡ 8 → Weighs w
  weighs w h = subst Weighs (sym (spelled w 8 0 (omega arith))) (weighs_eight (at w 0) (at w 1) (at w 2) (at w 3) (at w 4) (at w 5) (at w 6) (at w 7))

  worths_sum : (w : List ℕ) → length w ≡ 8 → total (weigh (menu m span) w) ≡ sum_of (worths_of (sight_of m span) w)
  worths_sum w h = total_sum (weigh (menu m span) w) ∙ ap sum_of (weighs w h).0

  picked : (w : List ℕ) (d : ℕ) → length w ≡ 8
      → choose d 0 (weigh (menu m span) w) ≡ get_or (menu m span) (index_of d (worths_of (sight_of m span) w)) no_offer
  picked w d h =
      choose_at (weigh (menu m span) w) d 0 d (omega arith)
      ∙ ap (λ (l : List Offer). get_or l (index_of d (weights_of (weigh (menu m span) w))) no_offer) (weighs w h).1
      ∙ ap (λ (l : List ℕ). get_or (menu m span) (index_of d l) no_offer) (weighs w h).0

  -- ## The offer with an index, by the columns
  abbrev object : ℕ → ℕ → ℕ
  object i x = object_at m.ceiling m.held (sight_of m span) i x

  operand_is : (i : ℕ) → (get_or (menu m span) i no_offer).operand ≡ operand_at (sight_of m span) span i
  unfolding menu sight_of
  operand_is zero = refl
  operand_is (suc zero) = refl
  operand_is (suc (suc zero)) = refl
  operand_is (suc (suc (suc zero))) = refl
  operand_is (suc (suc (suc (suc zero)))) = refl
  operand_is (suc (suc (suc (suc (suc zero))))) = refl
  operand_is (suc (suc (suc (suc (suc (suc zero)))))) = refl
  operand_is (suc (suc (suc (suc (suc (suc (suc zero))))))) = refl
  operand_is (suc (suc (suc (suc (suc (suc (suc (suc i)))))))) = refl

  barrier_is : (i x : ℕ) → (get_or (menu m span) i no_offer).barrier x ≡ barrier_at (quiet m (object i x)) i
  unfolding menu sight_of
  barrier_is zero x = refl
  barrier_is (suc zero) x = refl
  barrier_is (suc (suc zero)) x = refl
  barrier_is (suc (suc (suc zero))) x = refl
  barrier_is (suc (suc (suc (suc zero)))) x = refl
  barrier_is (suc (suc (suc (suc (suc zero))))) x = refl
  barrier_is (suc (suc (suc (suc (suc (suc zero)))))) x = refl
  barrier_is (suc (suc (suc (suc (suc (suc (suc zero))))))) x = refl
  barrier_is (suc (suc (suc (suc (suc (suc (suc (suc i)))))))) x = refl

  -- A delay's time is told where it fits; a barrier is one byte.
  command_is : (i x y : ℕ) → (i ≡ 0 → m.clock + x < 2 ^ 64) → y < 256
      → told_command ((get_or (menu m span) i no_offer).command x y) ≡ command_at m.clock (object i x) (quiet m (object i x)) x y i
  unfolding menu sight_of command_at
  command_is zero x y h k = rw (lt-ltb (m.clock + x) (2 ^ 64) (h refl))
  command_is (suc zero) x y h k = refl
  command_is (suc (suc zero)) x y h k = refl
  command_is (suc (suc (suc zero))) x y h k = refl
  command_is (suc (suc (suc (suc zero)))) x y h k = rw (mod-eq_of_lt k)
  command_is (suc (suc (suc (suc (suc zero))))) x y h k = refl
  command_is (suc (suc (suc (suc (suc (suc zero)))))) x y h k = rw (mod-eq_of_lt k)
  command_is (suc (suc (suc (suc (suc (suc (suc zero))))))) x y h k = rw (mod-eq_of_lt k)
  command_is (suc (suc (suc (suc (suc (suc (suc (suc i)))))))) x y h k =
      let j = suc (suc (suc (suc (suc (suc (suc (suc i))))))) in
      rw (ne_eqb j 3 (λ e. omega arith), ne_eqb j 6 (λ e. omega arith))

-- A delay that is chosen has room.
first_room : (s : Sight) (w : List ℕ) (d : ℕ) → index_of d (worths_of s w) ≡ 0 → s.room ≡ true
unfolding index_of worths_of
first_room s w d e = (both_true s.free s.room (weighty (s.free && s.room) e)).1
  where
    weighty : (b : Bool) → cond (ltb d (cond b (at w 0) 0)) 0 (suc (index_of (d - cond b (at w 0) 0) (drop 1 (worths_of s w)))) ≡ 0 → b ≡ true
    weighty true q = refl
    weighty false q = absurd (let z : suc (index_of (d - 0) (drop 1 (worths_of s w))) ≡ 0 = rw (le-ltb d 0 (omega arith)) at q in omega arith)

entry_small : (q : Bool) → cond q 2 0 ≤ 2
entry_small true = omega arith
entry_small false = omega arith

barrier_small : (q : Bool) (i : ℕ) → barrier_at q i ≤ 2
barrier_small q zero = omega arith
barrier_small q (suc zero) = omega arith
barrier_small q (suc (suc zero)) = omega arith
barrier_small q (suc (suc (suc zero))) = omega arith
barrier_small q (suc (suc (suc (suc zero)))) = omega arith
barrier_small q (suc (suc (suc (suc (suc zero))))) = omega arith
barrier_small q (suc (suc (suc (suc (suc (suc zero)))))) = entry_small q
barrier_small q (suc (suc (suc (suc (suc (suc (suc zero))))))) = omega arith
barrier_small q (suc (suc (suc (suc (suc (suc (suc (suc i)))))))) = omega arith

-- a number that fits, where one is needed, and is 0 where none is
small_number : (n x : ℕ) → n ≤ 2 → (1 ≤ n → x < n) → (n ≡ 0 → x ≡ 0) → x < 256
small_number zero x h f z = let e = z refl in omega arith
small_number (suc n) x h f z = let k : x < suc n = f (omega arith) in omega arith

remainder_fits : (n d : ℕ) → (1 ≤ n → remainder_if_needed n d < n) × (n ≡ 0 → remainder_if_needed n d ≡ 0)
remainder_fits zero d = (λ h. h, λ e. refl)
remainder_fits (suc n) d = let z : eqb (suc n) 0 ≡ false = ne_eqb (suc n) 0 (λ e. omega arith) in (λ h. rw z (mod-lt d h), λ e. absurd (omega arith))

even_fits : (n seed : ℕ) → (1 ≤ n → (if_needed even n seed).number < n) × (n ≡ 0 → (if_needed even n seed).number ≡ 0)
even_fits n seed = ((needed_chooses even even_chooses n seed).below, λ e. rw e)

-- the draws that a choice spent are at most 8
pub few_spent : (n seed : ℕ) (c : Choice) → c ≡ told_choice (even n seed) → c.spent ≤ 8
few_spent n seed c e = let z : c.spent ≡ (even n seed).spent = ap (λ (x : Choice). x.spent) e in omega (arith, z, (even_chooses n seed).most)

pub few_spent_if_needed : (n seed : ℕ) (c : Choice) → c ≡ told_choice (if_needed even n seed) → c.spent ≤ 8
few_spent_if_needed n seed c e =
    let z : c.spent ≡ (if_needed even n seed).spent = ap (λ (x : Choice). x.spent) e in
    omega (arith, z, (needed_chooses even even_chooses n seed).most)

-- ## The command of the tables
module _ (base ready held way ceiling waiter : List ℕ) (clock span : ℕ) (weights : List ℕ) (eight : length weights ≡ 8) where
  abbrev m : Machine
  m = shown base ready held way ceiling waiter clock true

  abbrev l : List (ℕ × Offer)
  l = weigh (menu m span) weights

  -- what the tables say of the offer that a number below S chooses
  record Offered (s : Sight) (d : ℕ) : Type 0 where
    operand : (choose d 0 l).operand ≡ operand_at s span (index_of d (worths_of s weights))
    barrier : (x : ℕ) → let i = index_of d (worths_of s weights) in (choose d 0 l).barrier x ≡ barrier_at (quiet_at waiter (object_at ceiling held s i x)) i
    command : (x y : ℕ) → let i = index_of d (worths_of s weights) in let o = object_at ceiling held s i x in
        (1 ≤ operand_at s span i → x < operand_at s span i) → y < 256
        → told_command ((choose d 0 l).command x y) ≡ command_at clock o (quiet_at waiter o) x y i

  abbrev Summed : Sight → Type 0
  Summed s = total l ≡ sum_of (worths_of s weights)

  offered_of : (d : ℕ) → Offered (sight_of m span) d
  unfolding sight_of
  offered_of d =
      let i = index_of d (worths_of (sight_of m span) weights) in
      let e = picked m span weights d eight in
      record {
        operand = ap (λ (o : Offer). o.operand) e ∙ operand_is m span i;
        barrier = λ x. ap (λ (o : Offer). o.barrier x) e ∙ barrier_is m span i x ∙ ap (λ (q : Bool). barrier_at q i) (none_waits waiter (object m span i x));
        command = λ x y f k. ap (λ (o : Offer). told_command (o.command x y)) e ∙ command_is m span i x y (timely i x refl f) k
            ∙ ap (λ (q : Bool). command_at clock (object m span i x) q x y i) (none_waits waiter (object m span i x));
      }
    where
      timely : (i x : ℕ) → i ≡ index_of d (worths_of (sight_of m span) weights) → (1 ≤ operand_at (sight_of m span) span i → x < operand_at (sight_of m span) span i)
          → i ≡ 0 → clock + x < 2 ^ 64
      timely i x e f z =
          let t : clock + span < 2 ^ 64 = ltb-true _ _ (first_room (sight_of m span) weights d (sym e ∙ z)) in
          let g : 1 ≤ span + 1 → x < span + 1 = subst (λ (j : ℕ). 1 ≤ operand_at (sight_of m span) span j → x < operand_at (sight_of m span) span j) z f in
          let k : x < span + 1 = g (omega arith) in
          omega arith

  -- what a draw looks at, by the tables
  abbrev s : Sight
  s = sight_in base ready held way ceiling clock span

  offered : (d : ℕ) → Offered s d
  offered d = subst (λ (v : Sight). Offered v d) (seen base ready held way ceiling waiter clock span) (offered_of d)

  summed : Summed s
  summed = subst Summed (seen base ready held way ceiling waiter clock span) (worths_sum m span weights eight)

  -- Edition 1: by three draws.
  pub chosen_is : (d1 d2 d3 : ℕ) →
      let i = index_of (d1 % sum_of (worths_of s weights)) (worths_of s weights) in
      let x = remainder_if_needed (operand_at s span i) d2 in
      let o = object_at ceiling held s i x in
      let q = quiet_at waiter o in
      command_at clock o q x (remainder_if_needed (barrier_at q i) d3) i ≡ chosen_of base ready held way ceiling waiter clock span weights d1 d2 d3
  unfolding chosen_of chosen
  chosen_is d1 d2 d3 =
      let i = index_of (d1 % sum_of (worths_of s weights)) (worths_of s weights) in
      let x = remainder_if_needed (operand_at s span i) d2 in
      let n = barrier_at (quiet_at waiter (object_at ceiling held s i x)) i in
      let k = offered (d1 % sum_of (worths_of s weights)) in
      let b = remainder_fits n d3 in
      let o = choose (d1 % sum_of (worths_of s weights)) 0 l in
      let small = small_number n (remainder_if_needed n d3) (barrier_small (quiet_at waiter (object_at ceiling held s i x)) i) b.0 b.1 in
      sym
      (ap (λ (t : ℕ). told_command (command_by (choose (d1 % t) 0 l) d2 d3)) summed
      ∙ ap (λ (t : ℕ). told_command (o.command (remainder_if_needed t d2) (remainder_if_needed (o.barrier (remainder_if_needed t d2)) d3))) k.operand
      ∙ ap (λ (t : ℕ). told_command (o.command x (remainder_if_needed t d3))) (k.barrier x)
      ∙ k.command x (remainder_if_needed n d3) (remainder_fits (operand_at s span i) d2).0 small)

  -- Edition 2: from a seed.
  pub evenly_is : (seed : ℕ) →
      let kind = even (sum_of (worths_of s weights)) seed in
      finished_at held ceiling waiter clock span s (index_of kind.number (worths_of s weights)) kind.seed kind.spent
      ≡ evenly_of base ready held way ceiling waiter clock span weights seed
  unfolding evenly_of made_by finished_at
  evenly_is seed =
      let kind = even (sum_of (worths_of s weights)) seed in
      let i = index_of kind.number (worths_of s weights) in
      let k = offered kind.number in
      let operand = if_needed even (operand_at s span i) kind.seed in
      let n = barrier_at (quiet_at waiter (object_at ceiling held s i operand.number)) i in
      let barrier = if_needed even n operand.seed in
      let b = even_fits n operand.seed in
      let c = k.command operand.number barrier.number (even_fits (operand_at s span i) kind.seed).0
      (small_number n barrier.number (barrier_small (quiet_at waiter (object_at ceiling held s i operand.number)) i) b.0 b.1) in
      rw (summed, k.operand, k.barrier operand.number)
      (ap (λ (x : Command). let r : Made = record { command = x; seed = barrier.seed; spent = kind.spent + operand.spent + barrier.spent } in r) (sym c))

  -- The same by parts, as the code has them, each told of the ones before it.
  pub chosen_from : (d1 d2 d3 : ℕ) (v : Sight) (w : List ℕ) (a sum d i n x o : ℕ) (q : Bool) (k y : ℕ) (c : Command)
      → c ≡ command_at clock o q x y i → y ≡ remainder_if_needed k d3 → k ≡ barrier_at q i → q ≡ quiet_at waiter o → o ≡ object_at ceiling held v i x
      → x ≡ remainder_if_needed n d2 → n ≡ operand_at v span i → i ≡ index_of d w → d ≡ a % sum → sum ≡ sum_of w → a ≡ d1 → w ≡ worths_of v weights → v ≡ s
      → c ≡ chosen_of base ready held way ceiling waiter clock span weights d1 d2 d3
  chosen_from d1 d2 d3 v w a sum d i n x o q k y c e1 e2 e3 e4 e5 e6 e7 e8 e9 e10 e11 e12 e13 =
      rw (e1, e2, e3, e4, e5, e6, e7, e8, e9, e10, e11, e12, e13) (chosen_is d1 d2 d3)

  pub evenly_from : (seed : ℕ) (v : Sight) (w : List ℕ) (sum : ℕ) (kind : Choice) (d i : ℕ) (r : Made)
      → r ≡ finished_at held ceiling waiter clock span v i kind.seed kind.spent → i ≡ index_of d w → d ≡ kind.number → kind ≡ told_choice (even sum seed)
      → sum ≡ sum_of w → w ≡ worths_of v weights → v ≡ s → r ≡ evenly_of base ready held way ceiling waiter clock span weights seed
  evenly_from seed v w sum kind d i r e1 e2 e3 e4 e5 e6 e7 = rw (e1, e2, e3, e4, e5, e6, e7) (evenly_is seed)

pub finished_from : (held ceiling waiter : List ℕ) (clock span : ℕ) (s : Sight) (i seed spent n : ℕ) (operand : Choice) (o : ℕ) (q : Bool) (k : ℕ)
    (barrier : Choice)
    (c : Command) → c ≡ command_at clock o q operand.number barrier.number i → barrier ≡ told_choice (if_needed even k operand.seed) → k ≡ barrier_at q i
    → q ≡ quiet_at waiter o → o ≡ object_at ceiling held s i operand.number → operand ≡ told_choice (if_needed even n seed) → n ≡ operand_at s span i
    → ◌≡◌ {A = Made} (record { command = c; seed = barrier.seed; spent = spent + operand.spent + barrier.spent })
    (finished_at held ceiling waiter clock span s i seed spent)
unfolding finished_at
finished_from held ceiling waiter clock span s i seed spent n operand o q k barrier c e1 e2 e3 e4 e5 e6 e7 = rw (e1, e2, e3, e4, e5, e6, e7)
