-- Decimals both ways: the decimal of n reads as n, and what reads as n is the decimal of n. By induction on the digits, the last one taken
-- off. Assumes nothing.
use Prim.Native.Nat.{ℕ, zero, suc, ◌+◌, ◌-◌, ◌*◌, ◌/◌, ◌%◌, ◌^◌, ◌≤◌, ◌<◌}
use native.Mathlib.Nat.{pow-suc}
use native.Mathlib.Omega.{arith}
use mathlib.Core.Bool.{Bool, true, false, cond, ◌&&◌, and_assoc, false≢true}
use mathlib.Core.Path.{◌≡◌, refl, ap, sym, ◌∙◌}
use mathlib.Core.List.{List, [], ◌∷◌, ◌++◌}
use borrow.Author.Tests.{lt-ltb, le-ltb, ltb-true, ltb-false, le-leb, leb-true, ne_eqb, eqb-false, not-true}
use lib.Dec.{eqb, leb, ltb}
use lib.ListN.{length, take, get_or, length-append, get_or-append}
use lib.Seq.{take-suc, take_all, length-take-le, get_or-take}
use Rattle.rules.specs.Line.{every}
use Rattle.rules.proofs.Tests.{both_true}
use Rattle.decimal.specs.declared.Reading.{Reading}
use Rattle.decimal.specs.Decimal.{digit, shortest, value_from, number_of, decimal, decimal_in}

-- ---- lists of digits

pub every_append : (f : ℕ → Bool) (xs ys : List ℕ) → every f (xs ++ ys) ≡ (every f xs && every f ys)
every_append f [] ys = refl
every_append f (x ∷ xs) ys = rw (every_append f xs ys) (sym (and_assoc (f x) (every f xs) (every f ys)))

value_append : (n : ℕ) (xs ys : List ℕ) → value_from n (xs ++ ys) ≡ value_from (value_from n xs) ys
unfolding value_from
value_append n [] ys = refl
value_append n (x ∷ xs) ys = value_append (n * 10 + (x - 48)) xs ys

-- one digit more at the end
value_last : (w : List ℕ) (b : ℕ) → value_from 0 (w ++ (b ∷ [])) ≡ value_from 0 w * 10 + (b - 48)
unfolding value_from
value_last w b = value_append 0 w (b ∷ [])

digit_of : (d : ℕ) → d < 10 → digit (48 + d) ≡ true
digit_of d h = rw (le-leb 48 (48 + d) (omega arith), le-leb (48 + d) 57 (omega arith))

digit_range : (b : ℕ) → digit b ≡ true → (48 ≤ b) × (b ≤ 57)
digit_range b e = let p = both_true (leb 48 b) (leb b 57) e in (leb-true 48 b p.0, leb-true b 57 p.1)

shortest_led : (w : List ℕ) → (length w ≡ 0 → ⊥) → (get_or w 0 0 ≡ 48 → ⊥) → shortest w ≡ true
unfolding shortest
shortest_led [] n h = absurd (n refl)
shortest_led (b ∷ []) n h = refl
shortest_led (b ∷ (d ∷ w)) n h = rw (ne_eqb b 48 h)

led_shortest : (w : List ℕ) → shortest w ≡ true → 1 < length w → get_or w 0 0 ≡ 48 → ⊥
unfolding shortest
led_shortest [] e h z = omega arith
led_shortest (b ∷ []) e h z = omega arith
led_shortest (b ∷ (d ∷ w)) e h z = eqb-false b 48 (not-true (eqb b 48) e) z

shortest_some : (w : List ℕ) → shortest w ≡ true → 0 < length w
unfolding shortest
shortest_some [] e = absurd (false≢true e)
shortest_some (b ∷ w) e = omega arith

-- ---- the decimal of n

module _ (f n : ℕ) where
  pub small_decimal : n < 10 → decimal_in (suc f) n ≡ (48 + n % 10) ∷ []
  unfolding decimal_in
  small_decimal h = rw (lt-ltb n 10 h)

  large_decimal : 10 ≤ n → decimal_in (suc f) n ≡ decimal_in f (n / 10) ++ ((48 + n % 10) ∷ [])
  unfolding decimal_in
  large_decimal h = rw (le-ltb n 10 h)

  tenth_fits : n < 10 ^ suc f → n / 10 < 10 ^ f
  tenth_fits h = let e : 10 ^ suc f ≡ 10 ^ f * 10 = pow-suc 10 f in omega arith

digits_only : (f n : ℕ) → every digit (decimal_in f n) ≡ true
unfolding decimal_in
digits_only zero n = refl
digits_only (suc f) n = go (ltb n 10) (digits_only f (n / 10))
  where
    go : (b : Bool) → every digit (decimal_in f (n / 10)) ≡ true → every digit (cond b [] (decimal_in f (n / 10)) ++ ((48 + n % 10) ∷ [])) ≡ true
    go true e = rw (digit_of (n % 10) (omega arith))
    go false e = rw (every_append digit (decimal_in f (n / 10)) ((48 + n % 10) ∷ []), e, digit_of (n % 10) (omega arith))

some_digit : (f n : ℕ) → 0 < length (decimal_in (suc f) n)
unfolding decimal_in
some_digit f n = rw (length-append (cond (ltb n 10) [] (decimal_in f (n / 10))) ((48 + n % 10) ∷ [])) (omega arith)

no_decimal : (n : ℕ) → decimal_in zero n ≡ []
unfolding decimal_in
no_decimal n = refl

reads_as : (f n : ℕ) → n < 10 ^ f → value_from 0 (decimal_in f n) ≡ n
unfolding value_from
reads_as zero n h = rw (no_decimal n) (omega arith)
reads_as (suc f) n h = go (ltb n 10) refl (reads_as f (n / 10) (tenth_fits f n h))
  where
    go : (b : Bool) → ltb n 10 ≡ b → value_from 0 (decimal_in f (n / 10)) ≡ n / 10 → value_from 0 (decimal_in (suc f) n) ≡ n
    go true t e = let g : n < 10 = ltb-true n 10 t in rw (small_decimal f n g) (omega arith)
    go false t e =
        let g : 10 ≤ n = ltb-false n 10 t in
        rw (large_decimal f n g, value_last (decimal_in f (n / 10)) (48 + n % 10), e) (omega arith)

-- its first digit is no zero, unless n is 0
well_led : (f n : ℕ) → n < 10 ^ suc f → 0 < n → get_or (decimal_in (suc f) n) 0 0 ≡ 48 → ⊥
well_led zero n h p z =
    let g : n < 10 = omega arith in
    let e : 48 + n % 10 ≡ 48 = rw (small_decimal zero n g) at z in
    omega arith
well_led (suc f) n h p z = go (ltb n 10) refl (λ g. well_led f (n / 10) (tenth_fits (suc f) n h) (omega arith)) z
  where
    go : (b : Bool) → ltb n 10 ≡ b → (10 ≤ n → get_or (decimal_in (suc f) (n / 10)) 0 0 ≡ 48 → ⊥) → get_or (decimal_in (suc (suc f)) n) 0 0 ≡ 48 → ⊥
    go true t ih z =
        let g : n < 10 = ltb-true n 10 t in
        let e : 48 + n % 10 ≡ 48 = rw (small_decimal (suc f) n g) at z in
        omega arith
    go false t ih z =
        let g : 10 ≤ n = ltb-false n 10 t in
        ih g (sym (get_or-append (decimal_in (suc f) (n / 10)) ((48 + n % 10) ∷ []) 0 0 (some_digit f (n / 10))) ∙ rw (large_decimal (suc f) n g) at z)

decimal_shortest : (f n : ℕ) → n < 10 ^ suc f → shortest (decimal_in (suc f) n) ≡ true
unfolding shortest
decimal_shortest f n h = go (ltb 0 n) refl
  where
    go : (b : Bool) → ltb 0 n ≡ b → shortest (decimal_in (suc f) n) ≡ true
    go true t =
        shortest_led (decimal_in (suc f) n) (λ e. let l : 0 < length (decimal_in (suc f) n) = some_digit f n in omega arith)
        (well_led f n h (ltb-true 0 n t))
    go false t = let g : n < 10 = omega (arith, ltb-false 0 n t) in rw (small_decimal f n g)

-- enough places are enough
places : (f g n : ℕ) → n < 10 ^ suc f → n < 10 ^ suc g → decimal_in (suc f) n ≡ decimal_in (suc g) n
places zero g n hf hg = let h : n < 10 = omega arith in small_decimal zero n h ∙ sym (small_decimal g n h)
places (suc f) zero n hf hg = let h : n < 10 = omega arith in small_decimal (suc f) n h ∙ sym (small_decimal zero n h)
places (suc f) (suc g) n hf hg = go (ltb n 10) refl (places f g (n / 10) (tenth_fits (suc f) n hf) (tenth_fits (suc g) n hg))
  where
    go : (b : Bool) → ltb n 10 ≡ b → decimal_in (suc f) (n / 10) ≡ decimal_in (suc g) (n / 10) → decimal_in (suc (suc f)) n ≡ decimal_in (suc (suc g)) n
    go true t e = let h : n < 10 = ltb-true n 10 t in small_decimal (suc f) n h ∙ sym (small_decimal (suc g) n h)
    go false t e =
        let h : 10 ≤ n = ltb-false n 10 t in
        large_decimal (suc f) n h ∙ ap (λ (l : List ℕ). l ++ ((48 + n % 10) ∷ [])) e ∙ sym (large_decimal (suc g) n h)

-- ---- what reads as n

-- digits, the last one taken off
module _ (w : List ℕ) (k : ℕ) (h : length w ≡ suc k) where
  last_off : w ≡ take k w ++ (get_or w k 0 ∷ [])
  last_off = sym (take_all (suc k) w (omega arith)) ∙ take-suc w k 0 (omega arith)

  rest_digits : every digit w ≡ true → (every digit (take k w) ≡ true) × (digit (get_or w k 0) ≡ true)
  rest_digits e =
      let p = both_true (every digit (take k w)) (every digit (get_or w k 0 ∷ []))
      (sym (every_append digit (take k w) (get_or w k 0 ∷ [])) ∙ ap (every digit) (sym last_off) ∙ e) in
      (p.0, (both_true (digit (get_or w k 0)) true p.1).0)

  value_off : value_from 0 w ≡ value_from 0 (take k w) * 10 + (get_or w k 0 - 48)
  value_off = ap (value_from 0) last_off ∙ value_last (take k w) (get_or w k 0)

one_digit_back : (w : List ℕ) → length w ≡ 1 → every digit w ≡ true
    → (decimal_in 1 (value_from 0 w) ≡ w) × (value_from 0 w + 48 ≡ get_or w 0 0) × (value_from 0 w < 10 ^ 1)
unfolding value_from
one_digit_back [] h e = absurd (omega arith)
one_digit_back (b ∷ []) h e =
    let r = digit_range b (both_true (digit b) true e).0 in
    let n : 0 * 10 + (b - 48) ≡ b - 48 = omega arith in
    let g : 0 * 10 + (b - 48) < 10 = omega arith in
    let d : 48 + (0 * 10 + (b - 48)) % 10 ≡ b = omega arith in
    (small_decimal zero (0 * 10 + (b - 48)) g ∙ ap (λ (x : ℕ). x ∷ []) d, omega arith, omega arith)
one_digit_back (b ∷ (d ∷ w)) h e = absurd (omega arith)

-- digits that start with no zero
record Back (k : ℕ) (w : List ℕ) : Type 0 where
  printed : decimal_in (suc k) (value_from 0 w) ≡ w
  some : 1 ≤ value_from 0 w
  bounded : value_from 0 w < 10 ^ suc k

led_back : (k : ℕ) (w : List ℕ) → length w ≡ suc k → every digit w ≡ true → (get_or w 0 0 ≡ 48 → ⊥) → Back k w
led_back zero w h e z =
    let b = one_digit_back w h e in
    let r = digit_range (get_or w 0 0) (rest_digits w 0 h e).1 in
    record { printed = b.0; some = least (value_from 0 w) (get_or w 0 0) b.1 z; bounded = b.2 }
  where
    least : (v d : ℕ) → v + 48 ≡ d → (d ≡ 48 → ⊥) → 1 ≤ v
    least zero d e z = absurd (z (omega arith))
    least (suc v) d e z = omega arith
led_back (suc k) w h e z =
    let d = rest_digits w (suc k) h e in
    let l : length (take (suc k) w) ≡ suc k = length-take-le (suc k) w (omega arith) in
    go d (led_back k (take (suc k) w) l d.0 (λ y. z (sym (get_or-take (suc k) w 0 0 (omega arith)) ∙ y)))
  where
    go : (every digit (take (suc k) w) ≡ true) × (digit (get_or w (suc k) 0) ≡ true) → Back k (take (suc k) w) → Back (suc k) w
    go d r =
        let b = get_or w (suc k) 0 in
        let u = take (suc k) w in
        let g = digit_range b d.1 in
        let v : value_from 0 w ≡ value_from 0 u * 10 + (b - 48) = value_off w (suc k) h in
        let s : 1 ≤ value_from 0 u = r.some in
        let m : value_from 0 u < 10 ^ suc k = r.bounded in
        let p : 10 ^ suc (suc k) ≡ 10 ^ suc k * 10 = pow-suc 10 (suc k) in
        let q : value_from 0 w / 10 ≡ value_from 0 u = omega arith in
        let t : 48 + value_from 0 w % 10 ≡ b = omega arith in
        record {
          printed =
              large_decimal (suc k) (value_from 0 w) (omega arith)
              ∙ rw (q, t, r.printed) (sym (last_off w (suc k) h));
          some = omega arith;
          bounded = omega arith;
        }

-- what a word has that reads as a number
pub record Number (w : List ℕ) (most : ℕ) : Type 0 where
  pub short : shortest w ≡ true
  pub digits : every digit w ≡ true
  pub bound : value_from 0 w ≤ most
  pub value : (number_of w most).value ≡ value_from 0 w

pub number_parts : (w : List ℕ) (most : ℕ) → (number_of w most).valid ≡ true → Number w most
unfolding number_of
number_parts w most = go (shortest w) (every digit w) (leb (value_from 0 w) most) refl refl refl
  where
    go : (s d b : Bool) → shortest w ≡ s → every digit w ≡ d → leb (value_from 0 w) most ≡ b → (number_of w most).valid ≡ true → Number w most
    go true true true es ed eb e = record { short = es; digits = ed; bound = leb-true (value_from 0 w) most eb; value = rw (es, ed, eb) }
    go true true false es ed eb e = absurd (false≢true (rw (es, ed, eb) at e))
    go true false b es ed eb e = absurd (false≢true (rw (es, ed) at e))
    go false d b es ed eb e = absurd (false≢true (rw es at e))

pub number_bound : (w : List ℕ) (most : ℕ) → (number_of w most).value ≤ most
unfolding number_of
number_bound w most = go (shortest w && every digit w) (leb (value_from 0 w) most) refl
  where
    go : (t b : Bool) → b ≡ leb (value_from 0 w) most
        → (cond {A = Reading} (t && b) (record { valid = true; value = value_from 0 w }) (record { valid = false; value = 0 })).value ≤ most
    go true true e = leb-true (value_from 0 w) most (sym e)
    go true false e = omega arith
    go false b e = omega arith

-- ---- both ways

pub reads_back : (n most : ℕ) → n ≤ most → n < 10 ^ 20 → number_of (decimal n) most ≡ record { valid = true; value = n }
unfolding decimal number_of
reads_back n most h g = rw (decimal_shortest 19 n g, digits_only 20 n, reads_as 20 n g, le-leb n most h)

pub prints_back : (w : List ℕ) (most : ℕ) → most < 10 ^ 20 → (number_of w most).valid ≡ true → decimal (number_of w most).value ≡ w
unfolding decimal
prints_back w most h e =
    let p = number_parts w most e in
    rw p.value (go (length w) refl p)
  where
    go : (k : ℕ) → length w ≡ k → Number w most → decimal_in 20 (value_from 0 w) ≡ w
    go zero l p = absurd (let s : 0 < length w = shortest_some w p.short in omega arith)
    go (suc zero) l p =
        let b = one_digit_back w l p.digits in
        let d : value_from 0 w < 10 ^ 20 = omega (arith, p.bound) in
        places 19 0 (value_from 0 w) d b.2 ∙ b.0
    go (suc (suc k)) l p =
        let b = led_back (suc k) w l p.digits (led_shortest w p.short (omega arith)) in
        let d : value_from 0 w < 10 ^ 20 = omega (arith, p.bound) in
        places 19 (suc k) (value_from 0 w) d b.bounded ∙ b.printed

-- a bound on the length
pub decimal_length : (f k n : ℕ) → n < 10 ^ suc k → length (decimal_in f n) ≤ suc k
decimal_length zero k n h = rw (no_decimal n) (omega arith)
decimal_length (suc f) zero n h = let g : n < 10 = omega arith in rw (small_decimal f n g) (omega arith)
decimal_length (suc f) (suc k) n h = go (ltb n 10) refl (decimal_length f k (n / 10) (tenth_fits (suc k) n h))
  where
    go : (b : Bool) → ltb n 10 ≡ b → length (decimal_in f (n / 10)) ≤ suc k → length (decimal_in (suc f) n) ≤ suc (suc k)
    go true t l = let g : n < 10 = ltb-true n 10 t in rw (small_decimal f n g) (omega arith)
    go false t l = let g : 10 ≤ n = ltb-false n 10 t in rw (large_decimal f n g, length-append (decimal_in f (n / 10)) ((48 + n % 10) ∷ [])) (omega arith)

pub decimal_digits_only : (n : ℕ) → every digit (decimal n) ≡ true
unfolding decimal
decimal_digits_only n = digits_only 20 n

-- no decimal is longer than its places
places_most : (f n : ℕ) → length (decimal_in f n) ≤ f
unfolding decimal_in
places_most zero n = omega arith
places_most (suc f) n = go (ltb n 10) (places_most f (n / 10))
  where
    go : (b : Bool) → length (decimal_in f (n / 10)) ≤ f → length (cond b [] (decimal_in f (n / 10)) ++ ((48 + n % 10) ∷ [])) ≤ suc f
    go true l = omega arith
    go false l = rw (length-append (decimal_in f (n / 10)) ((48 + n % 10) ∷ [])) (omega arith)

pub decimal_most : (n : ℕ) → length (decimal n) ≤ 20
unfolding decimal
decimal_most n = places_most 20 n

pub digits_most : (n k : ℕ) → n < 10 ^ suc k → length (decimal n) ≤ suc k
unfolding decimal
digits_most n k h = decimal_length 20 k n h
