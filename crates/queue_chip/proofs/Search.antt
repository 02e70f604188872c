-- The search by itself, of any table whatever: whom it finds is there if anyone is, has the least time, and of the equal times the greatest age. By one
-- fact on each turn: whoever stands before the soonest so far stands before all that it stood before. Assumes nothing.
use Prim.Native.Nat.{ℕ, zero, suc, ◌≤◌, ◌<◌}
use native.Mathlib.Omega.{arith}
use mathlib.Core.Path.{◌≡◌, refl, sym, ◌∙◌}
use mathlib.Core.Logic.{◌≢◌, ◌⊎◌, inl, inr, ⊎_elim}
use mathlib.Core.Bool.{Bool, true, false, cond, not, ◌&&◌, ◌||◌, true≢false}
use mathlib.Core.List.{List}
use lib.Dec.{eqb, ltb}
use borrow.Author.Tests.{ltb-true, ltb-false, eq-eqb, ne_eqb, lt-ltb, eqb-true, eqb-false}
use Rattle.rules.specs.Line.{at}
use Rattle.rules.proofs.Lists.{lt_or_ge}
use Rattle.queue_chip.specs.Queue.{sooner, before, soonest}

-- What the test says. A cell that is in use stands before another: that is not in use, or is no sooner, and of the same time is younger.
abbrev pub Sooner : ℕ → ℕ → ℕ → ℕ → Type 0
Sooner n a m b = (a ≢ 0) × ((b ≡ 0) ⊎ ((n ≤ m) × (m ≡ n → b < a)))

pub sooner_sure : (n a m b : ℕ) → sooner n a m b ≡ true → Sooner n a m b
sooner_sure n a m b e = go (eqb a 0) refl (eqb b 0) refl (ltb n m) refl (eqb n m) refl (ltb b a) refl e
  where
    go : (v : Bool) → eqb a 0 ≡ v → (w : Bool) → eqb b 0 ≡ w → (x : Bool) → ltb n m ≡ x → (y : Bool) → eqb n m ≡ y → (z : Bool) → ltb b a ≡ z
        → (not v && (w || x || y && z)) ≡ true → Sooner n a m b
    go true p w q x r y s z t h = absurd (true≢false (sym h))
    go false p true q x r y s z t h = (eqb-false a 0 p, inl (eqb-true b 0 q))
    go false p false q true r y s z t h = let lt : n < m = ltb-true n m r in (eqb-false a 0 p, inr (omega arith, λ i. absurd (omega arith)))
    go false p false q false r true s true t h =
        let z : n ≡ m = eqb-true n m s in
        (eqb-false a 0 p, inr (omega arith, λ i. ltb-true b a t))
    go false p false q false r true s false t h = absurd (true≢false (sym h))
    go false p false q false r false s z t h = absurd (true≢false (sym h))

pub sooner_yes : (n a m b : ℕ) → Sooner n a m b → sooner n a m b ≡ true
sooner_yes n a m b w = rw (ne_eqb a 0 w.0) (go w.1 (eqb b 0) refl (ltb n m) refl)
  where
    go : (b ≡ 0) ⊎ ((n ≤ m) × (m ≡ n → b < a)) → (x : Bool) → eqb b 0 ≡ x → (y : Bool) → ltb n m ≡ y → (x || y || eqb n m && ltb b a) ≡ true
    go g true e y f = refl
    go g false e true f = refl
    go (inl z) false e false f = absurd (eqb-false _ _ e z)
    go (inr w) false e false f =
        let k : m ≤ n = ltb-false n m f in
        let z : n ≡ m = omega (arith, w.0) in
        rw (eq-eqb n m z, lt-ltb b a (w.1 (sym z)))

-- Of two cells of which the first is in use and does not stand before the second: the second is in use, no later, and of the same time no younger.
pub sooner_not : (n a m b : ℕ) → sooner n a m b ≡ false → a ≢ 0 → (b ≢ 0) × (m ≤ n) × (n ≡ m → a ≤ b)
sooner_not n a m b e some = (λ z. none (inl z), omega (arith, late), young)
  where
    none : (b ≡ 0) ⊎ ((n ≤ m) × (m ≡ n → b < a)) → ⊥
    none w = true≢false (sym (sooner_yes n a m b (some, w)) ∙ e)

    late : m ≤ n
    late = ⊎_elim (λ (h : n < m). absurd (none (inr (omega arith, λ z. omega arith)))) (λ (h : m ≤ n). h) (lt_or_ge n m)

    young : n ≡ m → a ≤ b
    young z = ⊎_elim (λ (h : b < a). absurd (none (inr (omega arith, λ i. h)))) (λ (h : a ≤ b). h) (lt_or_ge b a)

-- two cells with the one before the other are not the other way round
pub sooner_no : (n a m b : ℕ) → Sooner n a m b → sooner m b n a ≡ false
sooner_no n a m b w = go (sooner m b n a) refl
  where
    clash : Sooner m b n a → ⊥
    clash v = ⊎_elim (λ (z : b ≡ 0). v.0 z) (λ (h : (n ≤ m) × (m ≡ n → b < a)). ⊎_elim w.0 (both h) v.1) w.1
      where
        both : (n ≤ m) × (m ≡ n → b < a) → (m ≤ n) × (n ≡ m → a < b) → ⊥
        both h i =
            let z : n ≡ m = omega (arith, h.0, i.0) in
            omega (arith, h.1 (sym z), i.1 z)

    go : (x : Bool) → sooner m b n a ≡ x → x ≡ false
    go true e = absurd (clash (sooner_sure m b n a e))
    go false e = refl

pub sooner_self : (n a : ℕ) → sooner n a n a ≡ false
sooner_self n a = go (sooner n a n a) refl
  where
    clash : Sooner n a n a → ⊥
    clash v = ⊎_elim v.0 (λ (h : (n ≤ n) × (n ≡ n → a < a)). omega (arith, h.1 refl)) v.1

    go : (x : Bool) → sooner n a n a ≡ x → x ≡ false
    go true e = absurd (clash (sooner_sure n a n a e))
    go false e = refl

module _ (times ages : List ℕ) where
  -- The task s is no worse than u: if u is in the table, so is s, with a time that is no later, and of the same time with an age that is no less.
  abbrev pub NoWorse : ℕ → ℕ → Type 0
  NoWorse s u = at ages u ≢ 0 → (at ages s ≢ 0) × (at times s ≤ at times u) × (at times u ≡ at times s → at ages u ≤ at ages s)

  -- a turn of the search
  better : (k s : ℕ) → before times ages k s ≡ true → (u : ℕ) → NoWorse s u → NoWorse k u
  better k s e u w some =
      let v = w some in
      let b = sooner_sure (at times k) (at ages k) (at times s) (at ages s) e in
      let c = ⊎_elim (λ (z : at ages s ≡ 0). absurd (v.0 z)) (by v) b.1 in
      (b.0, c.0, c.1)
    where
      by : (at ages s ≢ 0) × (at times s ≤ at times u) × (at times u ≡ at times s → at ages u ≤ at ages s)
          → (at times k ≤ at times s) × (at times s ≡ at times k → at ages s < at ages k)
          → (at times k ≤ at times u) × (at times u ≡ at times k → at ages u ≤ at ages k)
      by v h = (
        omega (arith, v.1, h.0),
        λ z. (
            let x : at times s ≡ at times k = omega (arith, v.1, h.0) in
            omega (arith, v.2 (z ∙ sym x), h.1 x)),
      )

  pub no_worse : (k u : ℕ) → u < k → NoWorse (soonest k times ages) u
  unfolding soonest
  no_worse zero u h = absurd (omega arith)
  no_worse (suc k) u h = turn (before times ages k (soonest k times ages)) refl (λ (i : u < k). no_worse k u i) (lt_or_ge u k)
    where
      self : NoWorse k k
      self some = (some, omega arith, λ z. omega arith)

      turn : (b : Bool) → before times ages k (soonest k times ages) ≡ b → (u < k → NoWorse (soonest k times ages) u) → (u < k) ⊎ (k ≤ u)
          → NoWorse (cond b k (soonest k times ages)) u
      turn true e ih (inl i) = better k (soonest k times ages) e u (ih i)
      turn true e ih (inr i) = let z : u ≡ k = omega arith in rw z self
      turn false e ih (inl i) = ih i
      turn false e ih (inr i) =
          let z : u ≡ k = omega arith in
          rw z (sooner_not (at times k) (at ages k) (at times (soonest k times ages)) (at ages (soonest k times ages)) e)

  -- whom it finds is below k, and 0 where nobody is there
  pub below : (x k : ℕ) → 0 < x → k ≤ x → soonest k times ages < x
  unfolding soonest
  below x zero p h = p
  below x (suc k) p h = go (before times ages k (soonest k times ages)) (below x k p (omega arith))
    where
      go : (b : Bool) → soonest k times ages < x → cond b k (soonest k times ages) < x
      go true ih = omega arith
      go false ih = ih

  pub nobody : (k : ℕ) → ((u : ℕ) → u < k → at ages u ≡ 0) → soonest k times ages ≡ 0
  unfolding soonest
  nobody zero f = refl
  nobody (suc k) f = rw (f k (omega arith)) (nobody k (λ u h. f u (omega arith)))

  -- one that stands before all others is found
  pub found : (x : ℕ) → 0 < x → ((u : ℕ) → u ≢ x → before times ages x u ≡ true) → ((u : ℕ) → u ≢ x → before times ages u x ≡ false)
      → (k : ℕ) → x < k → soonest k times ages ≡ x
  unfolding soonest
  found x p f g zero h = absurd (omega arith)
  found x p f g (suc k) h = go (λ (i : x < k). found x p f g k i) (lt_or_ge x k)
    where
      go : (x < k → soonest k times ages ≡ x) → (x < k) ⊎ (k ≤ x) → cond (before times ages k (soonest k times ages)) k (soonest k times ages) ≡ x
      go ih (inl i) = rw (ih i, g k (λ q. omega arith))
      go ih (inr i) =
          let z : k ≡ x = omega arith in
          let low = below x x p (omega arith) in
          rw (z, f (soonest x times ages) (λ q. omega arith))
