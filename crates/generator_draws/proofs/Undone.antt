-- From a seed that is not 0 no draw is ever 0: none of the three xor-shifts takes a number that is not 0 to 0.
-- A xor is 0 only of equal numbers; and x shifted by k bits in 32 is x again only for 0. Assumes nothing.
use Prim.Native.Nat.{ℕ, zero, suc, ◌+◌, ◌-◌, ◌*◌, ◌/◌, ◌%◌, ◌^◌, ◌≤◌, ◌<◌}
use native.Mathlib.Omega.{arith}
use native.Mathlib.Nat.{mod-lt, mul_comm, mul_assoc, add-mul, le_of_mul-le-mul_left, pow-zero, pow-succ'}
use mathlib.Core.Path.{◌≡◌, sym, ap, ◌∙◌}
use mathlib.Core.Logic.{◌≢◌}
use lib.Bits.{bit_xor, xor_add_and, and_le_l, and_le_r, xor_lt}
use Rattle.generator_draws.specs.Xorshift.{left, right, draw}

xor_zero : (a b : ℕ) → bit_xor a b ≡ 0 → a ≡ b
xor_zero a b e = omega (arith, xor_add_and a b, and_le_l a b, and_le_r a b)

-- Where x * a is a * s + x, a divides x, and what is left of x is x - s.
shed : (a x s : ℕ) → 0 < a → x * a ≡ a * s + x → (y : ℕ) × (x ≡ a * y) × (x ≡ s + y)
shed a x s pos e = (x - s, go (x - s) whole, whole)
  where
    whole : x ≡ s + (x - s)
    whole = let le : s ≤ x = le_of_mul-le-mul_left {k = a} (omega (arith, mul_comm x a)) pos in omega arith

    go : (d : ℕ) → x ≡ s + d → x ≡ a * d
    go d w = omega (arith, ap (λ (v : ℕ). v * a) w, add-mul s d a, mul_comm a s, mul_comm a d)

regroup : (a n y : ℕ) → a ^ suc n * y ≡ a * (a ^ n * y)
regroup a n y = rw (pow-succ', mul_assoc)

-- And so on, for a power of a.
sheds : (n a x c : ℕ) → 0 < a → x * a ≡ a ^ n * c + x → (y : ℕ) × (x ≡ a ^ n * y) × (y * a ≡ c + y)
sheds zero a x c pos e = (x, rw (pow-zero a) (omega arith), let f : x * a ≡ 1 * c + x = rw (pow-zero a) at e in omega arith)
sheds (suc n) a x c pos e =
    let f : x * a ≡ a * (a ^ n * c) + x = e ∙ ap (λ (v : ℕ). v + x) (regroup a n c) in
    let w = shed a x (a ^ n * c) pos f in
    let i = sheds n a w.0 c pos (mul_comm w.0 a ∙ (sym w.1 ∙ w.2)) in
    (i.0, w.1 ∙ (ap (λ (v : ℕ). a * v) i.1 ∙ sym (regroup a n i.0)), i.2)

-- So if x shifted left by 13 or by 5 in 32 bits is x again, 2^26 or 2^30 divides x, and then 2^32 does.
left_13 : (x : ℕ) → x < 2 ^ 32 → x ≡ x * 2 ^ 13 % 2 ^ 32 → x ≡ 0
left_13 x h e =
    let q : ℕ = x * 8192 / 4294967296 in
    let w = sheds 2 8192 x (64 * q) (omega arith) (omega arith) in
    last w.0 q x w.1 w.2 h
  where
    last : (y q x : ℕ) → x ≡ 67108864 * y → y * 8192 ≡ 64 * q + y → x < 2 ^ 32 → x ≡ 0
    last y q x e f h = let v : ℕ = 128 * y - q in let g : y ≡ 64 * v = omega arith in omega arith

left_5 : (x : ℕ) → x < 2 ^ 32 → x ≡ x * 2 ^ 5 % 2 ^ 32 → x ≡ 0
left_5 x h e =
    let q : ℕ = x * 32 / 4294967296 in
    let w = sheds 6 32 x (4 * q) (omega arith) (omega arith) in
    last w.0 q x w.1 w.2 h
  where
    last : (y q x : ℕ) → x ≡ 1073741824 * y → y * 32 ≡ 4 * q + y → x < 2 ^ 32 → x ≡ 0
    last y q x e f h = let v : ℕ = 8 * y - q in let g : y ≡ 4 * v = omega arith in omega arith

right_17 : (x : ℕ) → x ≡ x / 2 ^ 17 → x ≡ 0
right_17 x e = omega arith

shift_fits : (x k : ℕ) → x * 2 ^ k % 2 ^ 32 < 2 ^ 32
shift_fits x k = mod-lt (x * 2 ^ k) (omega arith)

-- A draw fits in 32 bits, if the seed does;
pub draw_fits : (x : ℕ) → x < 2 ^ 32 → draw x < 2 ^ 32
unfolding draw
draw_fits x h =
    let a = xor_lt 32 x (x * 2 ^ 13 % 2 ^ 32) h (shift_fits x 13) in
    let b = xor_lt 32 (left x 13) (left x 13 / 2 ^ 17) a (omega arith) in
    xor_lt 32 (right (left x 13) 17) (right (left x 13) 17 * 2 ^ 5 % 2 ^ 32) b (shift_fits (right (left x 13) 17) 5)

-- and it is not 0, if the seed is not.
pub draw_lives : (x : ℕ) → x < 2 ^ 32 → x ≢ 0 → draw x ≢ 0
unfolding draw
draw_lives x h n e =
    let a = xor_lt 32 x (x * 2 ^ 13 % 2 ^ 32) h (shift_fits x 13) in
    let b = xor_lt 32 (left x 13) (left x 13 / 2 ^ 17) a (omega arith) in
    let z : right (left x 13) 17 ≡ 0 = left_5 (right (left x 13) 17) b (xor_zero _ _ e) in
    let y : left x 13 ≡ 0 = right_17 (left x 13) (xor_zero _ _ z) in
    n (left_13 x h (xor_zero _ _ y))
