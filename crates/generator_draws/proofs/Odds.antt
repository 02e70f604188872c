-- Even odds, as counts. Of the numbers below L each choice below n comes from equally many, L / n. Over the eight draws of a choice, all values against all,
-- each choice comes from equally many lists of values, but that a choice below r = 4294967295 mod n has r ^ 7 more: the lists whose first seven values are
-- drawn again and whose eighth is the one value not below L that gives this choice. (All lists of eight values are counted, as if draws did not depend on each
-- other. From a seed the first draw fixes the others, so a run of the generator meets only 4294967295 of these lists.) Assumes nothing.
use Prim.Native.Nat.{ℕ, zero, suc, ◌+◌, ◌*◌, ◌/◌, ◌%◌, ◌≤◌, ◌<◌, ◌^◌}
use native.Mathlib.Omega.{arith}
use native.Mathlib.Nat.{mod-lt, mod-eq_of_lt, mul-add, add-mul, mul_comm, mul-one, mul_assoc, mul_left_comm, pow-zero, pow-succ', div-add-mod}
use native.Mathlib.Nat.{mul-add-mod_self_left}
use mathlib.Core.Path.{◌≡◌, refl, sym, ap, ◌∙◌}
use mathlib.Core.Bool.{Bool, true, false, cond}
use mathlib.Core.List.{◌∷◌}
use lib.Dec.{eqb, ltb}
use borrow.Author.Tests.{eqb-true, eqb-false, ltb-true, ltb-false, lt-ltb, le-ltb}
use Rattle.generator_draws.specs.Xorshift.{draw}
use Rattle.generator_draws.specs.Below.{value, limit, taken, one_later, choose_within, even}
use Rattle.generator_draws.specs.Odds.{sum_below, how_many, how_many_lists, chosen_from, values, draw_values, ways_to, common}

-- ## Sums
sum_same : (k : ℕ) (f g : ℕ → ℕ) → ((v : ℕ) → v < k → f v ≡ g v) → sum_below k f ≡ sum_below k g
unfolding sum_below
sum_same zero f g e = refl
sum_same (suc k) f g e = omega (arith, sum_same k f g (λ v h. e v (omega arith)), e k (omega arith))

times_suc : (k c : ℕ) → suc k * c ≡ k * c + c
times_suc k c = let e : suc k ≡ k + 1 = omega arith in ap (λ (x : ℕ). x * c) e ∙ (add-mul k 1 c ∙ (let z : k * c + 1 * c ≡ k * c + c = omega arith in z))

sum_constant : (k c : ℕ) → sum_below k (λ v. c) ≡ k * c
unfolding sum_below
sum_constant zero c = omega arith
sum_constant (suc k) c = omega (arith, sum_constant k c, times_suc k c)

sum_times : (k c : ℕ) (f : ℕ → ℕ) → sum_below k (λ v. f v * c) ≡ sum_below k f * c
unfolding sum_below
sum_times zero c f = omega arith
sum_times (suc k) c f = omega (arith, sum_times k c f, add-mul (sum_below k f) (f k) c)

sum_split : (a b : ℕ) (f : ℕ → ℕ) → sum_below (a + b) f ≡ sum_below a f + sum_below b (λ v. f (a + v))
unfolding sum_below
sum_split a zero f = let e : a + 0 ≡ a = omega arith in ap (λ (x : ℕ). sum_below x f) e ∙ (let z : sum_below a f ≡ sum_below a f + 0 = omega arith in z)
sum_split a (suc b) f =
    let e : a + suc b ≡ suc (a + b) = omega arith in
    ap (λ (x : ℕ). sum_below x f) e ∙ (let z : sum_below (a + b) f + f (a + b)
    ≡ sum_below a f + (sum_below b (λ v. f (a + v)) + f (a + b)) = omega (arith, sum_split a b f) in z)

-- ## The remainders of a whole number of rounds
next_above : (k c : ℕ) → k ≤ c → (k ≡ c → ⊥) → suc k ≤ c
next_above k c x y = go (ltb k c) refl
  where
    go : (b : Bool) → ltb k c ≡ b → suc k ≤ c
    go true e = let z : k < c = ltb-true _ _ e in omega arith
    go false e = absurd (y (let z : c ≤ k = ltb-false _ _ e in omega arith))

just_one : (k c : ℕ) → how_many k (λ v. eqb v c) ≡ cond (ltb c k) 1 0
unfolding sum_below
just_one zero c = rw (le-ltb c 0 (omega arith))
just_one (suc k) c = go (ltb c k) refl (eqb k c) refl (just_one k c)
  where
    go : (a : Bool) → ltb c k ≡ a → (b : Bool) → eqb k c ≡ b → how_many k (λ v. eqb v c) ≡ cond a 1 0
        → how_many k (λ v. eqb v c) + cond b 1 0 ≡ cond (ltb c (suc k)) 1 0
    go true u true w h = absurd (let x : c < k = ltb-true _ _ u in let y : k ≡ c = eqb-true _ _ w in omega arith)
    go true u false w h = let x : c < k = ltb-true _ _ u in rw (lt-ltb c (suc k) (omega arith)) (omega (arith, h))
    go false u true w h = let y : k ≡ c = eqb-true _ _ w in rw (lt-ltb c (suc k) (omega arith)) (omega (arith, h))
    go false u false w h =
        let x : k ≤ c = ltb-false _ _ u in
        let y = eqb-false k c w in
        rw (le-ltb c (suc k) (next_above k c x y)) (omega (arith, h))

module _ (n c : ℕ) (pos : 1 ≤ n) (low : c < n) where
  -- of k numbers from a whole number of rounds on, k at most n: the remainder c comes once, if at all
  in_round : (q k : ℕ) → k ≤ n → how_many k (λ v. eqb ((n * q + v) % n) c) ≡ cond (ltb c k) 1 0
  in_round q k h =
      sum_same k (λ v. cond (eqb ((n * q + v) % n) c) 1 0) (λ v. cond (eqb v c) 1 0)
      (λ v l. ap (λ (x : ℕ). cond (eqb x c) 1 0) (mul-add-mod_self_left n q v ∙ mod-eq_of_lt (let z : v < n = omega arith in z)))
      ∙ just_one k c

  -- in q rounds it comes q times
  in_rounds : (q : ℕ) → how_many (n * q) (λ v. eqb (v % n) c) ≡ q
  unfolding sum_below
  in_rounds zero = let e : n * 0 ≡ 0 = omega arith in ap (λ (k : ℕ). how_many k (λ v. eqb (v % n) c)) e
  in_rounds (suc q) =
      let e : n * suc q ≡ n * q + n = omega (arith, mul_comm n (suc q), times_suc q n, mul_comm n q) in
      let one : how_many n (λ v. eqb ((n * q + v) % n) c) ≡ 1 = in_round q n (omega arith) ∙ rw (lt-ltb c n low) in
      ap (λ (k : ℕ). how_many k (λ v. eqb (v % n) c)) e ∙ (sum_split (n * q) n (λ v. cond (eqb (v % n) c) 1 0)
      ∙ (let z : how_many (n * q) (λ v. eqb (v % n) c) + how_many n (λ v. eqb ((n * q + v) % n) c) ≡ suc q = omega (arith, in_rounds q, one) in z))

  -- ## The lists of values
  module _ (top q r : ℕ) (whole : top ≡ n * q + r) (rest : r ≤ n) where
    abbrev lim : ℕ
    lim = n * q

    -- of the lists of k + 1 values, how many give c
    abbrev ways : ℕ → ℕ
    ways k = how_many_lists top (suc k) (λ l. eqb (chosen_from lim n l) c)

    lists_constant : (k : ℕ) (b : Bool) → how_many_lists top k (λ l. b) ≡ cond b (top ^ k) 0
    unfolding how_many_lists
    lists_constant zero b = rw (pow-zero top)
    lists_constant (suc k) b =
        sum_same top (λ v. how_many_lists top k (λ l. b)) (λ v. cond b (top ^ k) 0) (λ v h. lists_constant k b)
        ∙ (sum_constant top (cond b (top ^ k) 0) ∙ go b)
      where
        go : (b : Bool) → top * cond b (top ^ k) 0 ≡ cond b (top ^ suc k) 0
        go true = sym (pow-succ' top k)
        go false = omega arith

    -- one value gives c once for each round, and once more if c is below r
    last_value : ways 0 ≡ q + cond (ltb c r) 1 0
    unfolding how_many_lists
    last_value =
        ap (λ (k : ℕ). how_many k (λ v. eqb (v % n) c)) whole
        ∙ (sum_split lim r (λ v. cond (eqb (v % n) c) 1 0) ∙ (let z : how_many lim (λ v. eqb (v % n) c) + how_many r (λ v. eqb ((lim + v) % n) c)
        ≡ q + cond (ltb c r) 1 0
        = omega (arith, in_rounds q, in_round q r rest) in z))

    -- a first value below the limit decides; any other leaves it to the values behind it
    by_first : (k v : ℕ) → how_many_lists top (suc k) (λ l. eqb (chosen_from lim n (v ∷ l)) c)
        ≡ cond (ltb v lim) (cond (eqb (v % n) c) (top ^ suc k) 0) (ways k)
    unfolding how_many_lists
    by_first k v = go (ltb v lim)
      where
        go : (b : Bool) → sum_below top (λ w. how_many_lists top k (λ l. eqb (cond b (v % n) (chosen_from lim n (w ∷ l))) c))
            ≡ cond b (cond (eqb (v % n) c) (top ^ suc k) 0) (sum_below top (λ w. how_many_lists top k (λ l. eqb (chosen_from lim n (w ∷ l)) c)))
        go true = lists_constant (suc k) (eqb (v % n) c)
        go false = refl

    more_values : (k : ℕ) → ways (suc k) ≡ q * top ^ suc k + r * ways k
    unfolding how_many_lists
    more_values k =
        sum_same top _ (λ v. cond (ltb v lim) (cond (eqb (v % n) c) (top ^ suc k) 0) (ways k)) (λ v h. by_first k v)
        ∙ (ap (λ (x : ℕ). sum_below x (λ v. cond (ltb v lim) (cond (eqb (v % n) c) (top ^ suc k) 0) (ways k))) whole
        ∙ (sum_split lim r (λ v. cond (ltb v lim) (cond (eqb (v % n) c) (top ^ suc k) 0) (ways k)) ∙ both))
      where
        below : sum_below lim (λ v. cond (ltb v lim) (cond (eqb (v % n) c) (top ^ suc k) 0) (ways k)) ≡ q * top ^ suc k
        below =
            sum_same lim _ (λ v. cond (eqb (v % n) c) 1 0 * top ^ suc k) (λ v h. rw (lt-ltb v lim h) (once (eqb (v % n) c)))
            ∙ (sum_times lim (top ^ suc k) (λ v. cond (eqb (v % n) c) 1 0) ∙ ap (λ (x : ℕ). x * top ^ suc k) (in_rounds q))
          where
            once : (b : Bool) → cond b (top ^ suc k) 0 ≡ cond b 1 0 * top ^ suc k
            once true = omega arith
            once false = omega arith

        above : sum_below r (λ v. cond (ltb (lim + v) lim) (cond (eqb ((lim + v) % n) c) (top ^ suc k) 0) (ways k)) ≡ r * ways k
        above = sum_same r _ (λ v. ways k) (λ v h. rw (le-ltb (lim + v) lim (omega arith))) ∙ sum_constant r (ways k)

        both : sum_below lim (λ v. cond (ltb v lim) (cond (eqb (v % n) c) (top ^ suc k) 0) (ways k))
            + sum_below r (λ v. cond (ltb (lim + v) lim) (cond (eqb ((lim + v) % n) c) (top ^ suc k) 0) (ways k)) ≡ q * top ^ suc k + r * ways k
        both = omega (arith, below, above)

    all_values : (k : ℕ) → ways k ≡ common top q r k + cond (ltb c r) (r ^ k) 0
    all_values zero = last_value ∙ (let z : q + cond (ltb c r) 1 0 ≡ q + cond (ltb c r) (r ^ 0) 0 = rw (pow-zero r) in z)
    all_values (suc k) =
        more_values k ∙ (ap (λ (x : ℕ). q * top ^ suc k + r * x) (all_values k)
        ∙ (ap (λ (x : ℕ). q * top ^ suc k + x) (mul-add r (common top q r k) (cond (ltb c r) (r ^ k) 0)) ∙ go (ltb c r)))
      where
        go : (b : Bool) → q * top ^ suc k + (r * common top q r k + r * cond b (r ^ k) 0) ≡ q * top ^ suc k + r * common top q r k + cond b (r ^ suc k) 0
        go true = omega (arith, pow-succ' r k)
        go false = omega arith

-- ## The statements
rounds : (n : ℕ) → 4294967295 ≡ n * (4294967295 / n) + 4294967295 % n
rounds n = sym (div-add-mod 4294967295 n)

limit_whole : (n : ℕ) → limit n ≡ n * (4294967295 / n)
limit_whole n = omega (arith, div-add-mod 4294967295 n)

-- L is a multiple of n, and the largest that is not above 4294967295.
pub largest_multiple : (n : ℕ) → 1 ≤ n → (limit n ≡ n * (draw_values / n)) × (limit n ≤ draw_values) × (draw_values < limit n + n)
largest_multiple n pos =
    let w = div-add-mod 4294967295 n in
    let z : draw_values % n < n = mod-lt 4294967295 pos in
    (limit_whole n, omega (arith, w, z), omega (arith, w, z))

-- Of the numbers below L each choice below n comes from equally many: L / n, which is 4294967295 / n.
pub even_odds : (n c : ℕ) → 1 ≤ n → c < n → how_many (limit n) (λ v. eqb (v % n) c) ≡ draw_values / n
even_odds n c pos low = ap (λ (k : ℕ). how_many k (λ v. eqb (v % n) c)) (limit_whole n) ∙ in_rounds n c pos low (4294967295 / n)

-- What is left uneven. Of the 4294967295 ^ 8 lists of eight values, each choice below n comes from a number that all have in common, and the choices below
-- r = 4294967295 mod n from r ^ 7 more. (r is below n; for n = 7 it is 3, and 3 ^ 7 is 2187 of about 1.2 * 10 ^ 77.)
pub uneven_by : (n c : ℕ) → 1 ≤ n → c < n
    → let r = draw_values % n in ways_to n c ≡ common draw_values (draw_values / n) r 7 + cond (ltb c r) (r ^ 7) 0
uneven_by n c pos low =
    ap (λ (lim : ℕ). how_many_lists draw_values 8 (λ l. eqb (chosen_from lim n l) c)) (limit_whole n)
    ∙ all_values n c pos low draw_values (draw_values / n) (draw_values % n) (rounds n) (let z : draw_values % n < n = mod-lt 4294967295 pos in omega arith) 7

-- How little that is, for every n to 4294967295: r is below n, and at most 2147483647, which n = 2147483648 meets. So less than half of the values of a draw
-- are drawn again. For n up to 1000001, the largest of a menu, r ^ 7 is below 10 ^ 42, of about 1.2 * 10 ^ 77 lists.
pub few_left : (n : ℕ) → 1 ≤ n → n ≤ draw_values → (draw_values % n < n) × (draw_values % n ≤ 2147483647)
few_left n pos h = (below, go (draw_values / n) (rounds n))
  where
    below : draw_values % n < n
    below = mod-lt 4294967295 pos

    go : (q : ℕ) → 4294967295 ≡ n * q + 4294967295 % n → draw_values % n ≤ 2147483647
    go zero e = absurd (omega (arith, e, below, h))
    go (suc q) e = omega (arith, e, below, mul-add n 1 q)

-- What all choices have in common is the rest of the lists, in n equal shares: with the r ^ 8 lists whose eight values are all left over they are all that
-- there are.
power_one : (x : ℕ) → x ^ 1 ≡ x
power_one x = pow-succ' x 0 ∙ (ap (λ (y : ℕ). x * y) (pow-zero x) ∙ mul-one x)

all_lists : (top n q r : ℕ) → top ≡ n * q + r → (k : ℕ) → n * common top q r k + r ^ suc k ≡ top ^ suc k
all_lists top n q r e zero = omega (arith, e, power_one r, power_one top)
all_lists top n q r e (suc k) =
    let t = top ^ suc k in
    let c = common top q r k in
    let above : n * (q * t + r * c) ≡ n * (q * t) + n * (r * c) = mul-add n (q * t) (r * c) in
    let left : n * (q * t) ≡ n * q * t = sym (mul_assoc n q t) in
    let right : n * (r * c) ≡ r * (n * c) = mul_left_comm n r c in
    let whole : top * t ≡ n * q * t + r * t = ap (λ (x : ℕ). x * t) e ∙ add-mul (n * q) r t in
    let again : r * t ≡ r * (n * c) + r * r ^ suc k = ap (λ (x : ℕ). r * x) (sym (all_lists top n q r e k)) ∙ mul-add r (n * c) (r ^ suc k) in
    omega (arith, above, left, right, whole, again, pow-succ' r (suc k), pow-succ' top (suc k))

pub shares : (n : ℕ) → let r = draw_values % n in n * common draw_values (draw_values / n) r 7 + r ^ 8 ≡ draw_values ^ 8
shares n = all_lists draw_values n (draw_values / n) (draw_values % n) (rounds n) 7

-- And the choice that is made is that of the values of its draws.
within_is : (more n seed : ℕ) → (choose_within more n seed).number ≡ chosen_from (limit n) n (values (suc more) seed)
within_is zero n seed = refl
within_is (suc more) n seed = go (ltb (value seed) (limit n)) (within_is more n (draw seed))
  where
    go : (b : Bool) → (choose_within more n (draw seed)).number ≡ chosen_from (limit n) n (values (suc more) (draw seed))
        → (cond b (taken n seed) (one_later (choose_within more n (draw seed)))).number
        ≡ cond b (value seed % n) (chosen_from (limit n) n (values (suc more) (draw seed)))
    go true e = refl
    go false e = e

pub choice_is : (n seed : ℕ) → (even n seed).number ≡ chosen_from (limit n) n (values 8 seed)
unfolding even
choice_is n seed = within_is 7 n seed
