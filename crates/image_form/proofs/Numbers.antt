-- Laws of numbers of 8 bytes one behind another: one more written, the i-th read, and both ways round. Each goes number by number;
-- one number's own 8 bytes are crate record's laws. Assumes nothing.
use mathlib.Core.Path.{◌≡◌, refl, sym, ap, ◌∙◌}
use mathlib.Core.List.{List, [], ◌∷◌, ◌++◌, append_assoc, append-nil}
use Prim.Native.Nat.{ℕ, zero, suc, ◌+◌, ◌*◌, ◌≤◌, ◌<◌}
use native.Mathlib.Nat.{add_assoc, add-zero, le_of_eq}
use native.Mathlib.Numerals.{add-one}
use native.Mathlib.Omega.{arith}
use lib.ListN.{length, take, drop, get_or}
use lib.Seq.{take-suc, take_all, get_or-drop}
use Rattle.record.specs.Form.{le8, of_le}
use Rattle.image_form.specs.Layout.{bytes_of, numbers_of, part}
use Rattle.image_form.proofs.Parts.{part_at}

pub bytes_snoc : (l : List ℕ) (x : ℕ) → bytes_of (l ++ (x ∷ [])) ≡ bytes_of l ++ le8 x
unfolding bytes_of
bytes_snoc [] x = refl
bytes_snoc (y ∷ l) x = ap (λ (t : List ℕ). le8 y ++ t) (bytes_snoc l x)

pub bytes_size : (l : List ℕ) → length (bytes_of l) ≡ 8 * length l
unfolding bytes_of
bytes_size [] = refl
bytes_size (x ∷ l) = omega (arith, bytes_size l)

pub numbers_size : (n : ℕ) (s : List ℕ) → length (numbers_of n s) ≡ n
unfolding numbers_of
numbers_size zero s = refl
numbers_size (suc n) s = ap suc (numbers_size n (drop 8 s))

-- A number behind the first n bytes.
same_sum : {a b c d e f g h a' b' c' d' e' f' g' h' : ℕ} → a ≡ a' → b ≡ b' → c ≡ c' → d ≡ d' → e ≡ e' → f ≡ f' → g ≡ g' → h ≡ h'
    → a + 256 * b + 65536 * c + 16777216 * d + 4294967296 * e + 1099511627776 * f + 281474976710656 * g + 72057594037927936 * h
    ≡ a' + 256 * b' + 65536 * c' + 16777216 * d' + 4294967296 * e' + 1099511627776 * f' + 281474976710656 * g' + 72057594037927936 * h'
same_sum p q r s t u v w = cc

pub number_behind : (n : ℕ) (s : List ℕ) (at : ℕ) → of_le (drop n s) at ≡ of_le s (n + at)
number_behind n s at = same_sum (get_or-drop n s at 0) (cell 1) (cell 2) (cell 3) (cell 4) (cell 5) (cell 6) (cell 7)
  where
    cell : (j : ℕ) → get_or (drop n s) (at + j) 0 ≡ get_or s (n + at + j) 0
    cell j = get_or-drop n s (at + j) 0 ∙ ap (λ (i : ℕ). get_or s i 0) (sym (add_assoc n at j))

-- A number as a part of 8 bytes.
pub number_in : (at : ℕ) (s : List ℕ) → of_le (part 8 at s) 0 ≡ of_le s at
number_in at s =
    same_sum (cell 0 (omega arith) ∙ ap (λ (i : ℕ). get_or s i 0) (add-zero at)) (cell 1 (omega arith)) (cell 2 (omega arith)) (cell 3 (omega arith))
    (cell 4 (omega arith))
    (cell 5 (omega arith)) (cell 6 (omega arith)) (cell 7 (omega arith))
  where
    cell : (j : ℕ) → j < 8 → get_or (part 8 at s) j 0 ≡ get_or s (at + j) 0
    cell = part_at 8 at s

pub number_at : (n : ℕ) (s : List ℕ) (i : ℕ) → i < n → get_or (numbers_of n s) i 0 ≡ of_le s (8 * i)
unfolding numbers_of
number_at zero s i h = absurd (omega arith)
number_at (suc n) s zero h = refl
number_at (suc n) s (suc i) h =
    number_at n (drop 8 s) i (omega arith) ∙ number_behind 8 s (8 * i) ∙ ap (λ (j : ℕ). of_le s j) (let e : 8 + 8 * i ≡ 8 * suc i = omega arith in e)

-- Writing one more number of v behind the first i.
pub grow_times : (s t p v : List ℕ) (at i : ℕ) → i < length v → take (at + 8 * i) s ≡ p ++ bytes_of (take i v) → take (at + 8 * i + 8) t ≡ take (at + 8 * i) s
    ++ le8 (get_or v i 0)
    → take (at + 8 * (i + 1)) t ≡ p ++ bytes_of (take (i + 1) v)
grow_times s t p v at i h e f =
    ap (λ (n : ℕ). take n t) (let q : at + 8 * (i + 1) ≡ at + 8 * i + 8 = omega arith in q)
    ∙ f
    ∙ ap (λ (l : List ℕ). l ++ le8 (get_or v i 0)) e
    ∙ append_assoc p (bytes_of (take i v)) (le8 (get_or v i 0))
    ∙ ap (λ (l : List ℕ). p ++ l) (sym (bytes_snoc (take i v) (get_or v i 0)) ∙ ap bytes_of (sym (take-suc v i 0 h) ∙ ap (λ (n : ℕ). take n v) (sym (add-one i))))

pub start_times : (s v : List ℕ) (at : ℕ) → take (at + 8 * 0) s ≡ take at s ++ bytes_of (take 0 v)
unfolding bytes_of
start_times s v at = ap (λ (n : ℕ). take n s) (let q : at + 8 * 0 ≡ at = omega arith in q) ∙ sym (append-nil (take at s))

pub end_times : (s p v : List ℕ) (at i n : ℕ) → i ≡ n → length v ≡ n → length s ≡ at + 8 * n → take (at + 8 * i) s ≡ p ++ bytes_of (take i v) → s ≡ p
    ++ bytes_of v
end_times s p v at i n a l k e =
    sym (take_all (at + 8 * i) s (let q : length s ≤ at + 8 * i = omega arith in q))
    ∙ e
    ∙ ap (λ (x : List ℕ). p ++ bytes_of x) (take_all i v (le_of_eq (l ∙ sym a)))
