-- A buffer whose part from a place on was lent and is back. Assumes nothing.
use mathlib.Core.Path.{◌≡◌, ap, ◌∙◌}
use mathlib.Core.List.{List, ◌++◌, append-nil}
use borrow.Rule.Slice.PartMut.{put_mid}
use Prim.Native.Nat.{ℕ, ◌+◌, ◌-◌, ◌≤◌}
use native.Mathlib.Nat.{le_of_eq}
use native.Mathlib.Omega.{arith}
use lib.ListN.{length, take, drop, length-drop, drop_of_length-le}
use lib.Seq.{take_all}

-- the part from a place on is all that follows
rest_all : (s : List ℕ) (at : ℕ) → take (length s - at) (drop at s) ≡ drop at s
rest_all s at = take_all (length s - at) (drop at s) (le_of_eq (length-drop at s))

-- it has 16 bytes where the buffer has
pub rest_long : (s : List ℕ) (at : ℕ) → at + 16 ≤ length s → 16 ≤ length (take (length s - at) (drop at s))
rest_long s at h = let e : length (drop at s) ≡ length s - at = length-drop at s in rw (rest_all s at, e) (omega arith)

-- the part is back, with p in front of what it held
pub put_back : (s p last : List ℕ) (at : ℕ) → last ≡ p ++ drop 16 (take (length s - at) (drop at s)) → put_mid at (length s - at) s last ≡ take at s
    ++ (p ++ drop 16 (drop at s))
put_back s p last at e =
    ap (λ (x : List ℕ). take at s ++ (last ++ x)) (drop_of_length-le (drop at s) {i = length s - at} (le_of_eq (length-drop at s)))
    ∙ ap (λ (x : List ℕ). take at s ++ x) (append-nil last ∙ e ∙ ap (λ (x : List ℕ). p ++ drop 16 x) (rest_all s at))
