-- The laws of bits: what is pending when one is set, and when one is cleared. By halves: bit t + 1 of a number is bit t of its half. Assumes nothing.
use Prim.Native.Nat.{ℕ, zero, suc, ◌+◌, ◌*◌, ◌-◌, ◌/◌, ◌%◌, ◌≤◌, ◌<◌, ◌^◌}
use native.Mathlib.Omega.{arith}
use native.Mathlib.Nat.{pow-succ', one-le-pow, div-div-eq-div-mul, div-one}
use mathlib.Core.Path.{◌≡◌, refl, sym, ap, ◌∙◌}
use mathlib.Core.Logic.{◌≢◌}
use mathlib.Core.Bool.{Bool, true, false, cond, not, ◌&&◌, ◌||◌, or-true, or-false, and-true, and-false}
use lib.Dec.{eqb, eqb-zero-suc, eqb-suc-zero, eqb-suc-suc}
use borrow.Author.Tests.{eqb-true, eq-eqb, eqb-false, ne_eqb}
use Rattle.rules_exceptions.specs.Exceptions.{has, raised, cleared}

double : (t : ℕ) → 2 ^ suc t ≡ 2 * 2 ^ t
double t = pow-succ' 2 t

pub has_first : (p : ℕ) → has p 0 ≡ eqb (p % 2) 1
has_first p = ap (λ (x : ℕ). eqb (x % 2) 1) (div-one p)

pub has_behind : (p t : ℕ) → has p (suc t) ≡ has (p / 2) t
has_behind p t = ap (λ (x : ℕ). eqb (x % 2) 1) (ap (λ (x : ℕ). p / x) (double t) ∙ sym (div-div-eq-div-mul p 2 (2 ^ t)))

-- 0 has no bit
pub has_none : (t : ℕ) → has 0 t ≡ false
has_none zero = has_first 0
has_none (suc t) = has_behind 0 t ∙ has_none t

even : (p : ℕ) → has p 0 ≡ false → p % 2 ≡ 0
even p e = let n : p % 2 ≢ 1 = eqb-false _ _ (sym (has_first p) ∙ e) in omega arith

odd : (p : ℕ) → has p 0 ≡ true → p % 2 ≡ 1
odd p e = eqb-true _ _ (sym (has_first p) ∙ e)

-- the first bit goes by what is left over, the others by the half
same_first : (p q : ℕ) → p % 2 ≡ q % 2 → has p 0 ≡ has q 0
same_first p q e = has_first p ∙ (ap (λ (x : ℕ). eqb x 1) e ∙ sym (has_first q))

same_behind : (p q u : ℕ) → p / 2 ≡ q → has p (suc u) ≡ has q u
same_behind p q u e = has_behind p u ∙ ap (λ (x : ℕ). has x u) e

-- a bit that is 1 is part of the number
pub has_some : (p t : ℕ) → has p t ≡ true → 2 ^ t ≤ p
has_some p zero e = omega (arith, odd p e)
has_some p (suc t) e = omega (arith, double t, has_some (p / 2) t (sym (has_behind p t) ∙ e))

-- a bit more, where it was 0
pub has_more : (p t u : ℕ) → has p t ≡ false → has (p + 2 ^ t) u ≡ (has p u || eqb t u)
has_more p zero zero e = rw e (has_first (p + 1) ∙ eq-eqb ((p + 1) % 2) 1 (omega (arith, even p e)))
has_more p zero (suc u) e =
    rw (eqb-zero-suc u) (same_behind (p + 1) (p / 2) u (omega (arith, even p e)) ∙ (sym (has_behind p u) ∙ sym (or-false (has p (suc u)))))
has_more p (suc t) zero e = rw (eqb-suc-zero t) (same_first (p + 2 ^ suc t) p (omega (arith, double t)) ∙ sym (or-false (has p 0)))
has_more p (suc t) (suc u) e =
    rw (eqb-suc-suc t u, has_behind p u)
    (same_behind (p + 2 ^ suc t) (p / 2 + 2 ^ t) u (omega (arith, double t)) ∙ has_more (p / 2) t u (sym (has_behind p t) ∙ e))

-- a bit less, where it was 1
pub has_less : (p t u : ℕ) → has p t ≡ true → has (p - 2 ^ t) u ≡ (has p u && not (eqb t u))
has_less p zero zero e = rw e (has_first (p - 1) ∙ ne_eqb ((p - 1) % 2) 1 (omega (arith, odd p e)))
has_less p zero (suc u) e =
    rw (eqb-zero-suc u) (same_behind (p - 1) (p / 2) u (omega (arith, odd p e)) ∙ (sym (has_behind p u) ∙ sym (and-true (has p (suc u)))))
has_less p (suc t) zero e =
    rw (eqb-suc-zero t) (same_first (p - 2 ^ suc t) p (omega (arith, double t, has_some p (suc t) e)) ∙ sym (and-true (has p 0)))
has_less p (suc t) (suc u) e =
    rw (eqb-suc-suc t u, has_behind p u)
    (same_behind (p - 2 ^ suc t) (p / 2 - 2 ^ t) u (omega (arith, double t)) ∙ has_less (p / 2) t u (sym (has_behind p t) ∙ e))

-- a bit that is 1 already, and one that is 0 already, change nothing
had : (p t u : ℕ) → has p t ≡ true → has p u ≡ (has p u || eqb t u)
had p t u e = go (eqb t u) refl
  where
    go : (b : Bool) → eqb t u ≡ b → has p u ≡ (has p u || b)
    go true q = let h : has p u ≡ true = rw (eqb-true t u q) at e in h ∙ sym (or-true (has p u))
    go false q = sym (or-false (has p u))

had_not : (p t u : ℕ) → has p t ≡ false → has p u ≡ (has p u && not (eqb t u))
had_not p t u e = go (eqb t u) refl
  where
    go : (b : Bool) → eqb t u ≡ b → has p u ≡ (has p u && not b)
    go true q = let h : has p u ≡ false = rw (eqb-true t u q) at e in h ∙ sym (and-false (has p u))
    go false q = sym (and-true (has p u))

-- One is set. 0 is nobody; where one is pending nothing changes.
pub raised_nobody : (p : ℕ) → raised p 0 ≡ p
raised_nobody p = refl

pub raised_kept : (p t : ℕ) → has p t ≡ true → raised p t ≡ p
raised_kept p t e = rw (e, or-true (eqb t 0))

pub has_raised : (p t u : ℕ) → t ≢ 0 → has (raised p t) u ≡ (has p u || eqb t u)
has_raised p t u n = go (has p t) refl
  where
    go : (b : Bool) → has p t ≡ b → has (cond (eqb t 0 || b) p (p + 2 ^ t)) u ≡ (has p u || eqb t u)
    go true e = rw (ne_eqb t 0 n) (had p t u e)
    go false e = rw (ne_eqb t 0 n) (has_more p t u e)

-- the same of every f, asked of a task that is not idle; and idle's bit is never set
pub has_set : (p f u : ℕ) → u ≢ 0 → has (raised p f) u ≡ (has p u || eqb f u)
has_set p f u n = go (eqb f 0) refl
  where
    go : (b : Bool) → eqb f 0 ≡ b → has (raised p f) u ≡ (has p u || eqb f u)
    go true e = rw (eqb-true f 0 e, ne_eqb 0 u (λ z. n (sym z))) (sym (or-false (has p u)))
    go false e = has_raised p f u (eqb-false f 0 e)

pub has_idle : (p f : ℕ) → has (raised p f) 0 ≡ has p 0
has_idle p f = go (eqb f 0) refl
  where
    go : (b : Bool) → eqb f 0 ≡ b → has (raised p f) 0 ≡ has p 0
    go true e = rw (eqb-true f 0 e) refl
    go false e = has_raised p f 0 (eqb-false f 0 e) ∙ rw e (or-false (has p 0))

-- One is cleared.
pub has_cleared : (p t u : ℕ) → has (cleared p t) u ≡ (has p u && not (eqb t u))
has_cleared p t u = go (has p t) refl
  where
    go : (b : Bool) → has p t ≡ b → has (cond b (p - 2 ^ t) p) u ≡ (has p u && not (eqb t u))
    go true e = has_less p t u e
    go false e = had_not p t u e

-- A number below 2 ^ n has the bits below n alone, and stays so where a bit below n is set, or any is cleared.
pub has_below : (n p t : ℕ) → p < 2 ^ n → has p t ≡ true → t < n
has_below zero p t h e = absurd (omega (arith, has_some p t e, one-le-pow t 2 (omega arith)))
has_below (suc n) p zero h e = omega arith
has_below (suc n) p (suc t) h e = omega (arith, has_below n (p / 2) t (omega (arith, double n)) (sym (has_behind p t) ∙ e))

more_below : (n p t : ℕ) → has p t ≡ false → p < 2 ^ n → t < n → p + 2 ^ t < 2 ^ n
more_below zero p t e h k = absurd (omega arith)
more_below (suc n) p zero e h k = omega (arith, double n, even p e)
more_below (suc n) p (suc t) e h k =
    omega (arith, double n, double t, more_below n (p / 2) t (sym (has_behind p t) ∙ e) (omega (arith, double n)) (omega arith))

pub raised_below : (n p t : ℕ) → p < 2 ^ n → t < n → raised p t < 2 ^ n
raised_below n p t h k = go (eqb t 0) (has p t) refl
  where
    go : (a b : Bool) → has p t ≡ b → cond (a || b) p (p + 2 ^ t) < 2 ^ n
    go true b e = h
    go false true e = h
    go false false e = more_below n p t e h k

pub cleared_below : (n p t : ℕ) → p < 2 ^ n → cleared p t < 2 ^ n
cleared_below n p t h = go (has p t)
  where
    go : (b : Bool) → cond b (p - 2 ^ t) p < 2 ^ n
    go true = omega arith
    go false = h

-- Its bits are all of it: two such numbers with the same bits are one, and one without bits is 0.
pub same_bits : (n p q : ℕ) → p < 2 ^ n → q < 2 ^ n → ((t : ℕ) → t < n → has p t ≡ has q t) → p ≡ q
same_bits zero p q h k e = omega arith
same_bits (suc n) p q h k e =
    let half : p / 2 ≡ q / 2 =
    same_bits n (p / 2) (q / 2) (omega (arith, double n)) (omega (arith, double n))
    (λ t l. sym (has_behind p t) ∙ (e (suc t) (omega arith) ∙ has_behind q t)) in
    omega (arith, same_left (has p 0) refl (sym (e 0 (omega arith))))
  where
    same_left : (b : Bool) → has p 0 ≡ b → has q 0 ≡ has p 0 → p % 2 ≡ q % 2
    same_left true f g = odd p f ∙ sym (odd q (g ∙ f))
    same_left false f g = even p f ∙ sym (even q (g ∙ f))
