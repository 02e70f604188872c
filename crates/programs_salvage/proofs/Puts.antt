-- What was put where there is room for it stands at the buffer's front; and both texts of a piece were taken. Assumes nothing.
use Prim.Native.Nat.{ℕ, ◌+◌, ◌-◌, ◌≤◌, ◌<◌}
use native.Mathlib.Omega.{arith}
use mathlib.Core.Path.{◌≡◌, refl, ap, sym, ◌∙◌}
use mathlib.Core.List.{List, [], ◌∷◌}
use mathlib.Core.Logic.{inl, inr, ◌≢◌}
use lib.ListN.{length, take}
use Rattle.decimal.specs.Buffer.{place_after, contents_after, InFront}
use Rattle.decimal.proofs.Stores.{put_in_front}
use Rattle.programs_flow.specs.declared.Went.{Went}
use Rattle.programs_flow.specs.Flow.{Took, Wrote}
use Rattle.programs_flow.specs.Loops.{Put}
use Rattle.programs_flow.proofs.Rooms.{put_roomy}
use Rattle.programs_flow.proofs.Turns.{took_text}
use Rattle.salvage_marks.specs.declared.Stretch.{Stretch}
use Rattle.salvage_marks.specs.Torn.{cells}
use Rattle.salvage_marks.proofs.Marks.{closed_no, closed_one}
use Rattle.salvage_text.specs.Lines.{list_text}
use Rattle.programs_salvage.specs.Work.{numbers_of}
use Rattle.programs_salvage.specs.Turns.{Handed}

pub put_there : (room : ℕ) (text out left : List ℕ) (at : ℕ) → room ≤ length out → length text ≤ room
    → (at ≡ place_after room out 0 text) × (left ≡ contents_after room out 0 text) → Put at left text × InFront at left
put_there room text out left at o t (a, l) =
    let f = put_in_front room text out left at a l t in
    (put_roomy room text out left at o a l f.0, f)

-- ---- the last stretch

no_numbers : (x : Stretch) → x.size ≡ 0 → numbers_of x ≡ []
unfolding cells
no_numbers x z = let o : x.first + x.size ≤ x.first = omega (arith, z) in rw (closed_no x.first (x.first + x.size) [] o)

two_numbers : (x : Stretch) → x.size ≢ 0 → numbers_of x ≡ x.first ∷ (x.size ∷ [])
unfolding cells
two_numbers x z =
    let o : x.first < x.first + x.size = omega (arith, z) in
    let n : x.first + x.size - x.first ≡ x.size = omega arith in
    rw (closed_one x.first (x.first + x.size) [] o, n)

pub none_taken : (x y : Stretch) (w : Went) → x ≡ y → x.size ≡ 0 → Took (length (list_text (numbers_of y))) w.state w w
unfolding list_text
none_taken x y w e z = rw (← e, no_numbers x z) (inl (refl, omega arith))

pub one_taken : (x y : Stretch) (out : List ℕ) (n : ℕ) (w r : Went) → x ≡ y → x.size ≢ 0 → Put n out (list_text (x.first ∷ (x.size ∷ [])))
    → Wrote (length (take n out)) w r → Took (length (list_text (numbers_of y))) w.state w r
one_taken x y out n w r e z p q =
    rw (← e, two_numbers x z) (took_text (list_text (x.first ∷ (x.size ∷ []))) out n w.state w r p q.1)
