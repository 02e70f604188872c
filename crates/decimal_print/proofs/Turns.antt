-- What a turn of each loop that prints does, over plain numbers and lists. Assumes nothing.
use Prim.Native.Nat.{ℕ, zero, suc, ◌+◌, ◌-◌, ◌*◌, ◌/◌, ◌%◌, ◌^◌, ◌≤◌, ◌<◌}
use native.Mathlib.Nat.{pow-suc, pow-succ', mul_assoc, one-le-pow, lt_of_mul-lt-mul_right, mul-le-mul_right}
use native.Mathlib.Omega.{arith}
use native.Mathlib.Numerals.{add-one}
use mathlib.Core.Bool.{Bool, true, false, cond}
use mathlib.Core.Path.{◌≡◌, refl, ap, sym, ◌∙◌}
use mathlib.Core.List.{List, [], ◌∷◌, ◌++◌}
use borrow.Author.Tests.{le-ltb}
use lib.Dec.{ltb}
use lib.ListN.{length, length-append, set}
use lib.Seq.{sets}
use Rattle.decimal.specs.Decimal.{decimal, decimal_in}
use Rattle.decimal_print.specs.Method.{width_in, last_digits}
use Rattle.decimal.proofs.BothWays.{small_decimal, decimal_most, digits_most}

-- a turn of the count: the power is taken off once more, and not ten times
pub one_more : (n power digit rest : ℕ) → n < 10 * power → n ≡ digit * power + rest → power ≤ rest
    → (n ≡ (digit + 1) * power + (rest - power)) × (digit + 1 < 10)
one_more n power digit rest h e l = (omega arith, lt_of_mul-lt-mul_right power (omega arith))

-- the count that goes nine times. What was taken off and what is left make n; and for each turn to come the power fits once at most.
abbrev pub Evenly : ℕ → ℕ → ℕ → ℕ → ℕ → Type 0
Evenly n power rest digit turns = (n ≡ digit * power + rest) × (digit ≤ turns) × (turns ≤ 9) × (rest + turns * power < 10 * power)

module _ (n power rest digit turns : ℕ) (e : Evenly n power rest digit turns) where
  pub taken_off : turns < 9 → power ≤ rest → Evenly n power (rest - power) (digit + 1) (turns + 1)
  taken_off h l = (omega arith, omega arith, omega arith, omega arith)

  pub left_on : turns < 9 → rest < power → Evenly n power rest digit (turns + 1)
  left_on h l = (e.0, omega arith, omega arith, omega (arith, mul-le-mul_right {m = turns + 1} {n = 9} power (omega arith)))

  pub nine_times : 9 ≤ turns → (n ≡ digit * power + rest) × (rest < power) × (digit < 10)
  nine_times h =
      let t : turns ≡ 9 = omega arith in
      let l : rest + 9 * power < 10 * power = rw t at e.3 in
      (e.0, omega arith, omega arith)

pub next_power : (k : ℕ) → 0 < k → 10 ^ k ≡ 10 * 10 ^ (k - 1)
next_power k h = let e : suc (k - 1) ≡ k = omega arith in ap (λ (j : ℕ). 10 ^ j) (sym e) ∙ pow-succ' 10 (k - 1)

pub length_last_digits : (k n : ℕ) → length (last_digits k n) ≡ k
unfolding last_digits
length_last_digits zero n = refl
length_last_digits (suc k) n =
    let e : length (last_digits k (n / 10)) ≡ k = length_last_digits k (n / 10) in
    length-append (last_digits k (n / 10)) ((48 + n % 10) ∷ []) ∙ omega arith

-- what was counted of the highest power is the first digit, and what is left has the others
first_digit : (k d r : ℕ) → d < 10 → r < 10 ^ k → last_digits (suc k) (d * 10 ^ k + r) ≡ (48 + d) ∷ last_digits k r
unfolding last_digits
first_digit zero d r h l =
    let e : (d * 10 ^ 0 + r) % 10 ≡ d = omega arith in
    ap (λ (x : ℕ). (48 + x) ∷ []) e
first_digit (suc k) d r h l =
    let n = d * 10 ^ suc k + r in
    let e : 10 ^ suc k ≡ 10 ^ k * 10 = pow-suc 10 k in
    let p : d * 10 ^ suc k ≡ d * 10 ^ k * 10 = ap (λ (x : ℕ). d * x) e ∙ sym (mul_assoc d (10 ^ k) 10) in
    let q : n / 10 ≡ d * 10 ^ k + r / 10 = omega arith in
    let t : n % 10 ≡ r % 10 = omega arith in
    ap (λ (x : ℕ). last_digits (suc k) x ++ ((48 + n % 10) ∷ [])) q
    ∙ ap (λ (x : ℕ). last_digits (suc k) (d * 10 ^ k + r / 10) ++ ((48 + x) ∷ [])) t
    ∙ ap (λ (l : List ℕ). l ++ ((48 + r % 10) ∷ [])) (first_digit k d (r / 10) h (omega arith))

-- a turn: the first digit is stored, and those behind it are left to store
pub digit_turn : (out : List ℕ) (place left n d r : ℕ) → 0 < left → n ≡ d * 10 ^ (left - 1) + r → r < 10 ^ (left - 1) → d < 10
    → sets (set out place (48 + d)) (place + 1) (last_digits (left - 1) r) ≡ sets out place (last_digits left n)
digit_turn out place left n d r h e l g =
    let s : suc (left - 1) ≡ left = omega arith in
    ap (λ (i : ℕ). sets (set out place (48 + d)) i (last_digits (left - 1) r)) (add-one place)
    ∙ ap (λ (l : List ℕ). sets out place l)
    (sym (first_digit (left - 1) d r g l) ∙ ap (λ (m : ℕ). last_digits (suc (left - 1)) m) (sym e) ∙ ap (λ (k : ℕ). last_digits k n) s)

-- the last two: what is left behind the tens is its own digit
pub two_stored : (out : List ℕ) (at n d r : ℕ) → n ≡ d * 10 + r → r < 10 → d < 10
    → set (set out at (48 + d)) (at + 1) (48 + r) ≡ sets out at (last_digits 2 n)
unfolding last_digits
two_stored out at n d r e l g =
    let q : r % 10 ≡ r = omega arith in
    ap (λ (x : ℕ). set (set out at (48 + d)) (at + 1) (48 + x)) (sym q) ∙ digit_turn out at 2 n d r (omega arith) e l g

pub decimal_digits : (most n : ℕ) → decimal_in most n ≡ last_digits (width_in most n) n
unfolding decimal_in width_in last_digits
decimal_digits zero n = refl
decimal_digits (suc most) n = go (ltb n 10) (decimal_digits most (n / 10))
  where
    go : (b : Bool) → decimal_in most (n / 10) ≡ last_digits (width_in most (n / 10)) (n / 10)
        → cond b [] (decimal_in most (n / 10)) ++ ((48 + n % 10) ∷ []) ≡ last_digits (cond b 0 (width_in most (n / 10))) (n / 10) ++ ((48 + n % 10) ∷ [])
    go true e = refl
    go false e = ap (λ (l : List ℕ). l ++ ((48 + n % 10) ∷ [])) e

pub length_decimal : (n : ℕ) → length (decimal n) ≡ width_in 20 n
unfolding decimal
length_decimal n = rw (decimal_digits 20 n) (length_last_digits (width_in 20 n) n)

-- the loop that counts digits: one more where a number reaches the next power of ten, and no more where it does not
pub wide_enough : (most k n : ℕ) → k < most → 10 ^ k ≤ n → k < width_in most n
unfolding width_in
wide_enough zero k n h l = absurd (omega arith)
wide_enough (suc most) zero n h l = omega arith
wide_enough (suc most) (suc k) n h l =
    let e : 10 ^ suc k ≡ 10 ^ k * 10 = pow-suc 10 k in
    let o : 1 ≤ 10 ^ k = one-le-pow k 10 (omega arith) in
    rw (le-ltb n 10 (omega arith)) (omega (arith, wide_enough most k (n / 10) (omega arith) (omega arith)))

pub narrow_enough : (k n : ℕ) → 1 ≤ k → n < 10 ^ k → width_in 20 n ≤ k
narrow_enough zero n o h = absurd (omega arith)
narrow_enough (suc k) n o h = omega (arith, length_decimal n, digits_most n k h)

pub width_some : (most n : ℕ) → 1 ≤ width_in (suc most) n
unfolding width_in
width_some most n = omega arith

pub width_most : (n : ℕ) → width_in 20 n ≤ 20
width_most n = omega (arith, length_decimal n, decimal_most n)

-- a number from one power of ten on and below the next
pub width_between : (k n : ℕ) → k < 20 → 10 ^ k ≤ n → n < 10 ^ suc k → suc k ≡ width_in 20 n
width_between k n h l g = omega (arith, wide_enough 20 k n h l, narrow_enough (suc k) n (omega arith) g)

-- a number below ten is its own digit
pub own_digit : (out : List ℕ) (at n : ℕ) → n < 10 → (at + 1 ≡ at + length (decimal n)) × (set out at (48 + n) ≡ sets out at (decimal n))
unfolding decimal
own_digit out at n h =
    let e : n % 10 ≡ n = omega arith in
    let d : decimal_in 20 n ≡ (48 + n) ∷ [] = small_decimal 19 n h ∙ ap (λ (x : ℕ). (48 + x) ∷ []) e in
    (rw d, rw d)

-- and any other is its digits, as many as it has
pub all_digits : (out : List ℕ) (at k n : ℕ) (after : List ℕ) → k ≡ width_in 20 n → after ≡ sets out at (last_digits k n)
    → (at + k ≡ at + length (decimal n)) × (after ≡ sets out at (decimal n))
unfolding decimal
all_digits out at k n after e p = (ap (λ (j : ℕ). at + j) (e ∙ sym (length_decimal n)), p ∙ rw (e, decimal_digits 20 n))
