-- What was put where there was room for it stands at the front; and the front of a piece. Assumes nothing.
use Prim.Native.Nat.{ℕ, ◌+◌, ◌≤◌, min}
use native.Mathlib.Omega.{arith}
use mathlib.Core.Bool.{cond}
use mathlib.Core.Path.{◌≡◌, refl, ap, sym, ◌∙◌}
use mathlib.Core.List.{List, [], ◌∷◌, ◌++◌}
use borrow.Author.Tests.{le-leb}
use lib.Dec.{leb}
use lib.ListN.{length, take, drop}
use Rattle.std.proofs.lemmas.List.{take_min, length-take}
use lib.Seq.{sets, length-sets, sets-eq}
use Rattle.programs_flow.specs.Loops.{Put, Laid}

-- where there is room, what is said of it is the first of the two
pub with_room : {X : Type 0} (n : ℕ) (out : List ℕ) (x y : X) → n ≤ length out → cond (leb n (length out)) x y ≡ x
with_room n out x y o = rw (le-leb n (length out) o)

-- ---- what was put stands at the front

take_front : (text more : List ℕ) → take (length text) (text ++ more) ≡ text
take_front [] more = refl
take_front (b ∷ text) more = ap (λ (l : List ℕ). b ∷ l) (take_front text more)

-- of what was laid there it is so
pub laid_put : (at : ℕ) (out left text : List ℕ) → Laid at out left text → at ≤ length left → Put at left text
laid_put at out left text (a, e) o =
    let n : length left ≡ length out = ap length e ∙ length-sets out 0 text in
    let s : sets out 0 text ≡ text ++ drop (0 + length text) out = sets-eq text out 0 (omega (arith, o, a, n)) in
    (a, ap (λ (k : ℕ). take k left) a ∙ ap (λ (l : List ℕ). take (length text) l) (e ∙ s) ∙ take_front text (drop (0 + length text) out))

pub put_front : (out left text : List ℕ) (at : ℕ) → left ≡ sets out 0 text → at ≡ length text → at ≤ length left → Put at left text
put_front out left text at e a o = laid_put at out left text (a, e) o

-- a text that is put at place 0 where a buffer has so much room, and else not at all
pub laid_roomy : (room : ℕ) (text out left : List ℕ) (at : ℕ) → room ≤ length out → at ≡ cond (leb (0 + room) (length out)) (0 + length text) 0
    → left ≡ cond (leb (0 + room) (length out)) (sets out 0 text) out → Laid at out left text
laid_roomy room text out left at o a l =
    let e = a ∙ with_room (0 + room) out (0 + length text) 0 (omega (arith, o)) in
    (omega (arith, e), l ∙ with_room (0 + room) out (sets out 0 text) out (omega (arith, o)))

pub put_roomy : (room : ℕ) (text out left : List ℕ) (at : ℕ) → room ≤ length out → at ≡ cond (leb (0 + room) (length out)) (0 + length text) 0
    → left ≡ cond (leb (0 + room) (length out)) (sets out 0 text) out → at ≤ length left → Put at left text
put_roomy room text out left at o a l n = laid_put at out left text (laid_roomy room text out left at o a l) n

-- ---- the front of a piece: its first n bytes, or all of them

pub front_fits : (p : List ℕ) (n m : ℕ) → length p ≡ m → length (take n p) ≤ m
front_fits p n m l = omega (arith, l, length-take n p)

pub front_same : (p : List ℕ) (n m k : ℕ) → length p ≡ m → k ≡ min n m → take k p ≡ take n p
front_same p n m k l e = ap (λ (i : ℕ). take i p) (e ∙ ap (min n) (sym l)) ∙ take_min n p
