-- Laws of copying: bytes that are written one part behind another. Each is of one turn, or of a loop's start or end, over every width. (A table that is
-- filled from its start: crate record, proofs/Filled.) Assumes nothing.
use mathlib.Core.Path.{◌≡◌, sym, ap, ◌∙◌}
use mathlib.Core.List.{List, [], ◌∷◌, ◌++◌, append_assoc, append-nil}
use Prim.Native.Nat.{ℕ, ◌+◌, ◌<◌}
use native.Mathlib.Nat.{add_assoc, add-zero, le_of_eq}
use native.Mathlib.Numerals.{add-one}
use lib.ListN.{length, take, get_or, set}
use lib.Seq.{take-suc-set, take-suc, take_all}

-- Bytes s that are written from a place on, v behind what stands before it.
pub start : (s v : List ℕ) (at : ℕ) → take (at + 0) s ≡ take at s ++ take 0 v
start s v at = ap (λ (n : ℕ). take n s) (add-zero at) ∙ sym (append-nil (take at s))

pub grow : (s p v : List ℕ) (at i : ℕ) → i < length v → at + i < length s → take (at + i) s ≡ p ++ take i v
    → take (at + (i + 1)) (set s (at + i) (get_or v i 0)) ≡ p ++ take (i + 1) v
grow s p v at i h k e =
    ap (λ (n : ℕ). take n (set s (at + i) (get_or v i 0))) (sym (add_assoc at i 1))
    ∙ rw add-one (take-suc-set s (at + i) (get_or v i 0) k)
    ∙ ap (λ (l : List ℕ). l ++ (get_or v i 0 ∷ [])) e
    ∙ append_assoc p (take i v) (get_or v i 0 ∷ [])
    ∙ ap (λ (l : List ℕ). p ++ l) (sym (take-suc v i 0 h) ∙ ap (λ (n : ℕ). take n v) (sym (add-one i)))

pub end : (t p v : List ℕ) (at i n : ℕ) → i ≡ n → length v ≡ n → take (at + i) t ≡ p ++ take i v → take (at + n) t ≡ p ++ v
end t p v at i n a l e =
    ap (λ (m : ℕ). take (at + m) t) (sym a) ∙ e ∙ ap (λ (x : List ℕ). p ++ x) (take_all i v (le_of_eq (l ∙ sym a)))

-- one part more behind all that stands before it
pub behind : (r q p v : List ℕ) → r ≡ q ++ v → q ≡ p → r ≡ p ++ v
behind r q p v f e = f ∙ ap (λ (l : List ℕ). l ++ v) e
