-- A value and its 8 bytes, both ways. The idea: x / d is a digit and 256 times x / (d * 256), so seven such steps take the value apart or put it
-- together; a single `omega` over all eight digits gives up. Assumes nothing.
use mathlib.Core.Path.{◌≡◌, sym, ap, ◌∙◌}
use mathlib.Core.List.{List, [], ◌∷◌}
use Prim.Native.Nat.{ℕ, ◌+◌, ◌*◌, ◌/◌, ◌%◌, ◌<◌}
use native.Mathlib.Nat.{div-div-eq-div-mul}
use native.Mathlib.Omega.{arith}
use lib.ListN.{get_or}
use Rattle.record.specs.Form.{le8, of_le}

digit : (x : ℕ) → x ≡ x % 256 + 256 * (x / 256)
digit x = omega arith

-- a digit more
more : (x d : ℕ) → x / d ≡ x / d % 256 + 256 * (x / (d * 256))
more x d = digit (x / d) ∙ ap (λ (q : ℕ). x / d % 256 + 256 * q) (div-div-eq-div-mul x d 256)

top : (x : ℕ) → x < 18446744073709551616 → x / 72057594037927936 % 256 ≡ x / 72057594037927936
top x h = omega arith

sum : (x a b c d e f g p q r s t u v : ℕ) → x ≡ p + 256 * a → a ≡ q + 256 * b → b ≡ r + 256 * c → c ≡ s + 256 * d → d ≡ t + 256 * e → e ≡ u + 256 * f → f
    ≡ v + 256 * g
    → p + 256 * q + 65536 * r + 16777216 * s + 4294967296 * t + 1099511627776 * u + 281474976710656 * v + 72057594037927936 * g ≡ x
sum x a b c d e f g p q r s t u v h₀ h₁ h₂ h₃ h₄ h₅ h₆ = omega arith

-- a 64-bit value is read back from its bytes
pub value_back : (x : ℕ) → x < 18446744073709551616 → of_le (le8 x) 0 ≡ x
value_back x h =
    rw (top x h)
    (sum x (x / 256) (x / 65536) (x / 16777216) (x / 4294967296) (x / 1099511627776) (x / 281474976710656) (x / 72057594037927936) _ _ _ _ _ _ _ (digit x)
    (more x 256)
    (more x 65536) (more x 16777216) (more x 4294967296) (more x 1099511627776) (more x 281474976710656))

low : (b y : ℕ) → b < 256 → (b + 256 * y) % 256 ≡ b
low b y h = omega arith

high : (b y : ℕ) → b < 256 → (b + 256 * y) / 256 ≡ y
high b y h = omega arith

last : {b : ℕ} → b < 256 → b % 256 ≡ b
last h = omega arith

-- the digit at d of x, where x / d is b + 256 * y
at_digit : (x d b y : ℕ) → b < 256 → x / d ≡ b + 256 * y → (x / d % 256 ≡ b) × (x / (d * 256) ≡ y)
at_digit x d b y h e = (ap (λ (q : ℕ). q % 256) e ∙ low b y h, sym (div-div-eq-div-mul x d 256) ∙ ap (λ (q : ℕ). q / 256) e ∙ high b y h)

same_eight : {a b c d e f g h a' b' c' d' e' f' g' h' : ℕ} → a ≡ a' → b ≡ b' → c ≡ c' → d ≡ d' → e ≡ e' → f ≡ f' → g ≡ g' → h ≡ h'
    → ◌≡◌ {A = List ℕ} (a ∷ b ∷ c ∷ d ∷ e ∷ f ∷ g ∷ h ∷ []) (a' ∷ b' ∷ c' ∷ d' ∷ e' ∷ f' ∷ g' ∷ h' ∷ [])
same_eight p q r s t u v w = cc

nested : (a b c d e f g h : ℕ) → a + 256 * b + 65536 * c + 16777216 * d + 4294967296 * e + 1099511627776 * f + 281474976710656 * g + 72057594037927936 * h
    ≡ a + 256 * (b + 256 * (c + 256 * (d + 256 * (e + 256 * (f + 256 * (g + 256 * h))))))
nested a b c d e f g h = omega arith

-- eight bytes are those of the value that they hold, and it is a 64-bit number
module _ (p : List ℕ) (i : ℕ) (small : (j : ℕ) → get_or p j 0 < 256) where
  pub value_small : of_le p i < 18446744073709551616
  value_small = omega (arith, small i, small (i + 1), small (i + 2), small (i + 3), small (i + 4), small (i + 5), small (i + 6), small (i + 7))

  pub bytes_back : le8 (of_le p i) ≡ get_or p i 0 ∷ get_or p (i + 1) 0 ∷ get_or p (i + 2) 0 ∷ get_or p (i + 3) 0 ∷ get_or p (i + 4) 0 ∷ get_or p (i + 5) 0
      ∷ get_or p (i + 6) 0 ∷ get_or p (i + 7) 0 ∷ []
  bytes_back =
      let x : ℕ = of_le p i in
      let n = nested (get_or p i 0) (get_or p (i + 1) 0) (get_or p (i + 2) 0) (get_or p (i + 3) 0) (get_or p (i + 4) 0) (get_or p (i + 5) 0) (get_or p (i + 6) 0)
      (get_or p (i + 7) 0) in
      let d₁ = at_digit x 256 (get_or p (i + 1) 0) _ (small (i + 1)) (ap (λ (q : ℕ). q / 256) n ∙ high (get_or p i 0) _ (small i)) in
      let d₂ = at_digit x 65536 (get_or p (i + 2) 0) _ (small (i + 2)) d₁.1 in
      let d₃ = at_digit x 16777216 (get_or p (i + 3) 0) _ (small (i + 3)) d₂.1 in
      let d₄ = at_digit x 4294967296 (get_or p (i + 4) 0) _ (small (i + 4)) d₃.1 in
      let d₅ = at_digit x 1099511627776 (get_or p (i + 5) 0) _ (small (i + 5)) d₄.1 in
      let d₆ = at_digit x 281474976710656 (get_or p (i + 6) 0) (get_or p (i + 7) 0) (small (i + 6)) d₅.1 in
      let d₇ : x / 72057594037927936 % 256 ≡ get_or p (i + 7) 0 = ap (λ (q : ℕ). q % 256) d₆.1 ∙ last (small (i + 7)) in
      same_eight (ap (λ (q : ℕ). q % 256) n ∙ low (get_or p i 0) _ (small i)) d₁.0 d₂.0 d₃.0 d₄.0 d₅.0 d₆.0 d₇
