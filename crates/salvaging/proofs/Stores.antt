-- A record put at an index of a buffer, or a copy within it, is a run of stores. Assumes nothing.
use Prim.Native.Nat.{ℕ, ◌+◌, ◌-◌, ◌≤◌}
use native.Mathlib.Omega.{arith}
use native.Mathlib.Nat.{le_of_eq}
use mathlib.Core.Path.{◌≡◌, refl, sym, ap, ◌∙◌}
use mathlib.Core.List.{List, ◌++◌, append-nil, append_assoc}
use borrow.Rule.Slice.PartMut.{put_mid}
use lib.ListN.{length, take, drop, length-drop, drop_of_length-le}
use lib.Seq.{sets, sets-eq, paste, length-take-le, drop-drop, take_all}

-- what a copy within a buffer leaves, as stores
pub moved : (s : List ℕ) (i k : ℕ) (p : List ℕ) → i + k ≤ length s → k ≤ length p → paste s i p k ≡ sets s i (take k p)
moved s i k p o m =
    let n : length (take k p) ≡ k = length-take-le k p m in
    let h : i + length (take k p) ≤ length s = omega arith in
    sym (sets-eq (take k p) s i h ∙ rw n)

-- the 16 bytes at an index, as a part of the tape
pub part : (s : List ℕ) (at : ℕ) → at + 16 ≤ length s
    → (take (at + 16 - at) (drop at s) ≡ take 16 (drop at s)) × (length (take (at + 16 - at) (drop at s)) ≡ 16)
part s at o =
    let n : at + 16 - at ≡ 16 = omega arith in
    let l : 16 ≤ length (drop at s) = rw (length-drop at s) (omega arith) in
    rw n (refl, length-take-le 16 (drop at s) l)

-- the part from an index on is all that follows
rest_all : (s : List ℕ) (i : ℕ) → take (length s - i) (drop i s) ≡ drop i s
rest_all s i = take_all (length s - i) (drop i s) (le_of_eq (length-drop i s))

-- it is back with a run in front of what it held, which is a run of stores
pub put_front : (s : List ℕ) (i k : ℕ) (p last : List ℕ) → last ≡ p ++ drop k (take (length s - i) (drop i s)) → length p ≡ k → i + k ≤ length s
    → put_mid i (length s - i) s last ≡ sets s i p
put_front s i k p last e n o =
    let h : i + length p ≤ length s = omega arith in
    ap (λ (x : List ℕ). take i s ++ (last ++ x)) (drop_of_length-le (drop i s) {i = length s - i} (le_of_eq (length-drop i s)))
    ∙ ap (λ (x : List ℕ). take i s ++ x) (append-nil last ∙ e ∙ ap (λ (x : List ℕ). p ++ drop k x) (rest_all s i))
    ∙ sym (sets-eq p s i h ∙ append_assoc (take i s) p (drop (i + length p) s) ∙ rw (n, drop-drop k i s))

-- it is long enough where the buffer is
pub rest_long : (s : List ℕ) (i k : ℕ) → i + k ≤ length s → k ≤ length (take (length s - i) (drop i s))
rest_long s i k o = let e : length (drop i s) ≡ length s - i = length-drop i s in rw (rest_all s i, e) (omega arith)
