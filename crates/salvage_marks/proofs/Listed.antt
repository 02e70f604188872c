-- Which bytes are listed: of the bytes of a tape exactly those that are not kept. By induction on the marks, of the open stretch and what is behind it. Assumes
-- nothing.
use Prim.Native.Nat.{ℕ, zero, suc, ◌+◌, ◌-◌, ◌≤◌, ◌<◌}
use native.Mathlib.Omega.{arith}
use mathlib.Core.Path.{◌≡◌, refl, subst, ◌∙◌}
use mathlib.Core.Bool.{Bool, true, false, not, ◌&&◌}
use mathlib.Core.Logic.{◌⊎◌, inl, inr}
use mathlib.Core.List.{List, [], ◌∷◌}
use lib.Dec.{leb, ltb}
use lib.ListN.{length, get_or}
use borrow.Author.Tests.{lt-ltb, le-ltb, le-leb, lt-leb, ltb-true, ltb-false}
use Rattle.salvage_marks.specs.declared.Stretch.{Stretch}
use Rattle.salvage_marks.specs.Torn.{marks, closed, stretches, dropped}
use Rattle.salvage_marks.specs.Words.{in_stretch, byte_kept}
use Rattle.salvage_marks.proofs.Marks.{marks_long, closed_one, closed_no}

-- ---- one stretch, from a place up to another, in front of others

aside : (b : Bool) → (b && false) ≡ false
aside true = refl
aside false = refl

module _ (from at : ℕ) (xs : List Stretch) (i : ℕ) where
  outside : (i < from) ⊎ (at ≤ i) → in_stretch (closed from at xs) i ≡ in_stretch xs i
  outside o = go (ltb from at) refl o
    where
      go : (b : Bool) → ltb from at ≡ b → (i < from) ⊎ (at ≤ i) → in_stretch (closed from at xs) i ≡ in_stretch xs i
      go false e u = rw (closed_no from at xs (ltb-false from at e))
      go true e (inl u) = rw (closed_one from at xs (ltb-true from at e), lt-leb from i u)
      go true e (inr u) =
          let h : from < at = ltb-true from at e in
          let z : from + (at - from) ≡ at = omega arith in
          rw (closed_one from at xs h, z, le-ltb i at u, aside (leb from i))

  inside : from ≤ i → i < at → in_stretch (closed from at xs) i ≡ true
  inside o u =
      let h : from < at = omega arith in
      let z : from + (at - from) ≡ at = omega arith in
      rw (closed_one from at xs h, z, le-leb from i o, lt-ltb i at u)

-- ---- the stretches of marks

-- a byte before the open stretch stands in none; one of the open stretch stands in it
before : (ms : List Bool) (from at i : ℕ) → from ≤ at → i < from → in_stretch (stretches from at ms) i ≡ false
unfolding stretches
before [] from at i o u = outside from at [] i (inl u)
before (true ∷ ms) from at i o u = outside from at _ i (inl u) ∙ before ms (suc at) (suc at) i (omega arith) (omega arith)
before (false ∷ ms) from at i o u = before ms from (suc at) i (omega arith) u

open_one : (ms : List Bool) (from at i : ℕ) → from ≤ i → i < at → in_stretch (stretches from at ms) i ≡ true
unfolding stretches
open_one [] from at i o u = inside from at [] i o u
open_one (true ∷ ms) from at i o u = inside from at _ i o u
open_one (false ∷ ms) from at i o u = open_one ms from (suc at) i o (omega arith)

-- byte j behind the place
each : (ms : List Bool) (from at j : ℕ) → from ≤ at → j < length ms → in_stretch (stretches from at ms) (at + j) ≡ not (get_or ms j false)
unfolding stretches
each [] from at j o u = absurd (omega arith)
each (true ∷ ms) from at zero o u = outside from at _ (at + zero) (inr (omega arith)) ∙ before ms (suc at) (suc at) (at + zero) (omega arith) (omega arith)
each (true ∷ ms) from at (suc j) o u =
    let z : at + suc j ≡ suc at + j = omega arith in
    outside from at _ (at + suc j) (inr (omega arith)) ∙ rw z (each ms (suc at) (suc at) j (omega arith) (omega arith))
each (false ∷ ms) from at zero o u = open_one ms from (suc at) (at + zero) (omega arith) (omega arith)
each (false ∷ ms) from at (suc j) o u =
    let z : at + suc j ≡ suc at + j = omega arith in
    rw z (each ms from (suc at) j (omega arith) (omega arith))

-- of a tape: from byte 0 on, with no stretch open
pub exactly : (s : List ℕ) (i : ℕ) → i < length s → in_stretch (dropped s) i ≡ not (byte_kept s i)
unfolding dropped
exactly s i o =
    let n : length (marks true zero s) ≡ length s = marks_long true zero s in
    let z : 0 + i ≡ i = omega arith in
    subst (λ (k : ℕ). in_stretch (stretches 0 0 (marks true zero s)) k ≡ not (byte_kept s i)) z
    (each (marks true zero s) 0 0 i (omega arith) (omega (arith, n)))
