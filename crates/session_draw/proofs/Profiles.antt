-- A first line of draw that is accepted has a seed and a profile that the generator takes: its reader judges the profile by the generator's test. Assumes
-- nothing.
use Prim.Native.Nat.{ℕ, ◌≤◌}
use native.Mathlib.Omega.{arith}
use mathlib.Core.Bool.{Bool, true, false, cond, not, ◌&&◌}
use mathlib.Core.Path.{◌≡◌, refl}
use mathlib.Core.List.{List}
use borrow.Author.Tests.{eqb-true, eqb-false}
use lib.Dec.{eqb, leb}
use lib.ListN.{length}
use Rattle.rules.specs.Line.{empty}
use Rattle.generator_draws.specs.Draw.{good_profile, profile_of as of-numbers}
use Rattle.generator.specs.Public.{profile_of as drawn_profile}
use Rattle.text.specs.declared.FirstLine.{FirstLine}
use Rattle.text.specs.FirstLine.{judged, refused_with, seed_of, text_next, settings_of, first_line_of}
use Rattle.text.specs.Words.{bytes, word, behind}
use Rattle.text.proofs.Theorems.{seed_read}
use Rattle.session_stage.specs.Stage.{profile_of}

-- what code 0 says of a judgement, and of a first line judged so
judged_0 : (code : ℕ) (t : Bool) → judged code t ≡ 0 → (code ≡ 0) × (t ≡ true)
unfolding judged
judged_0 code t = go (eqb code 0) refl t
  where
    go : (z : Bool) → eqb code 0 ≡ z → (t : Bool) → ◌≡◌ {A = ℕ} (cond (not z) 17 (cond (not t) 18 0)) 0 → (code ≡ 0) × (t ≡ true)
    go true e true h = (eqb-true code 0 e, refl)
    go true e false h = absurd (omega arith)
    go false e t h = absurd (omega arith)

-- From a first line that is accepted the generator gets a seed 1..4294967295 and a profile that it takes. (With the generator's `draws_go_on`: behind
-- an accepted start no draw is refused.)
pub record Taken (f : FirstLine) : Type 0 where
  pub profile : good_profile (drawn_profile (profile_of f)) ≡ true
  pub least : 1 ≤ f.seed
  pub most : f.seed ≤ 4294967295

pub accepted_first_line : (l : List ℕ) → (first_line_of l).code ≡ 0 → Taken (first_line_of l)
unfolding first_line_of refused_with
accepted_first_line l =
    let s = text_next (bytes "seed ") l in
    let rest = settings_of (behind s.left) in
    let code = judged (seed_of (word s.left)).code (good_profile (of-numbers rest.span rest.weights)) in
    go (word s.left) rest.weights rest.span rest.count (leb (length l) 128 && s.valid && not (empty (word s.left)) && rest.valid)
    (eqb code 0) refl
  where
    go : (w weights : List ℕ) (span count : ℕ) (t u : Bool)
        → eqb (judged (seed_of w).code (good_profile (of-numbers span weights))) 0 ≡ u
        → (cond t
        (cond u (record { code = 0; seed = (seed_of w).seed; span = span; weights = weights; count = count })
        (refused_with (judged (seed_of w).code (good_profile (of-numbers span weights)))))
        (refused_with 14)).code ≡ 0
        → Taken
        (cond t
        (cond u (record { code = 0; seed = (seed_of w).seed; span = span; weights = weights; count = count })
        (refused_with (judged (seed_of w).code (good_profile (of-numbers span weights)))))
        (refused_with 14))
    go w weights span count true true e h =
        let j = judged_0 (seed_of w).code (good_profile (of-numbers span weights))
        (eqb-true (judged (seed_of w).code (good_profile (of-numbers span weights))) 0 e) in
        let s = seed_read w j.0 in
        record { profile = j.1; least = s.least; most = s.most }
    go w weights span count true false e h = absurd (eqb-false (judged (seed_of w).code (good_profile (of-numbers span weights))) 0 e h)
    go w weights span count false u e h = absurd (let z : ◌≡◌ {A = ℕ} 14 0 = h in omega arith)
