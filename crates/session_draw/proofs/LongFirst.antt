-- A first line of draw that is over 128 bytes long is refused with 14, whatever follows. So draw may stop reading there, and does. The idea: such a line only
-- grows. Assumes nothing.
use Prim.Native.Nat.{ℕ, suc, ◌<◌}
use native.Mathlib.Omega.{arith}
use mathlib.Core.Bool.{Bool, true, false, cond}
use mathlib.Core.Path.{◌≡◌, refl, ap, ◌∙◌}
use mathlib.Core.List.{List, [], ◌∷◌, ◌++◌, append_assoc, append-nil}
use lib.Dec.{eqb}
use lib.ListN.{length}
use Rattle.text.specs.Words.{line_end}
use Rattle.text.specs.FirstLine.{refused_with}
use Rattle.text.specs.Lines.{ended, begins, last_piece, lines}
use Rattle.text.specs.Printed.{draw_header, draw_line}
use Rattle.text.proofs.Kept.{opens_too_long}
use Rattle.session_stage.specs.Stage.{zeros}
use Rattle.session_draw.specs.Draw.{first_text, draw_text}

one_longer : (l : List ℕ) (b : ℕ) → 128 < length l → 128 < length (l ++ (b ∷ []))
one_longer l b h = omega (arith, h, length_one l b)
  where
    length_one : (l : List ℕ) (b : ℕ) → length (l ++ (b ∷ [])) ≡ suc (length l)
    length_one [] b = refl
    length_one (x ∷ l) b = ap suc (length_one l b)

refused_long : (l : List ℕ) (ls : List (List ℕ)) → 128 < length l → first_text (l ∷ ls) ≡ draw_line (zeros 14)
unfolding first_text refused_with
refused_long l ls h = rw (opens_too_long l h)

some_bytes : (l : List ℕ) → 128 < length l → last_piece l ≡ l ∷ []
some_bytes [] h = absurd (omega (arith, h))
some_bytes (b ∷ l) h = refl

only_grows : (more begun : List ℕ) → 128 < length begun → first_text (ended begun more ++ last_piece (begins begun more)) ≡ draw_line (zeros 14)
unfolding ended begins
only_grows [] begun h = ap first_text (some_bytes begun h) ∙ refused_long begun [] h
only_grows (b ∷ l) begun h = go (eqb b line_end) (only_grows l (begun ++ (b ∷ [])) (one_longer begun b h))
  where
    go : (e : Bool) → first_text (ended (begun ++ (b ∷ [])) l ++ last_piece (begins (begun ++ (b ∷ [])) l)) ≡ draw_line (zeros 14)
        → first_text (cond e (begun ∷ ended [] l) (ended (begun ++ (b ∷ [])) l) ++ last_piece (cond e (begins [] l) (begins (begun ++ (b ∷ [])) l)))
        ≡ draw_line (zeros 14)
    go true i = refused_long begun (ended [] l ++ last_piece (begins [] l)) h
    go false i = i

-- input in which no line ends is the beginning of one line
one_line : (input begun more : List ℕ) → ended begun input ≡ []
    → (ended begun (input ++ more) ≡ ended (begun ++ input) more) × (begins begun (input ++ more) ≡ begins (begun ++ input) more)
unfolding ended begins
one_line [] begun more n = rw (append-nil begun) (refl, refl)
one_line (b ∷ l) begun more n = go (eqb b line_end) n (one_line l (begun ++ (b ∷ [])) more)
  where
    Grown : List ℕ → Type 0
    Grown x = (ended (begun ++ (b ∷ [])) (l ++ more) ≡ ended x more) × (begins (begun ++ (b ∷ [])) (l ++ more) ≡ begins x more)

    go : (e : Bool) → cond e (begun ∷ ended [] l) (ended (begun ++ (b ∷ [])) l) ≡ [] → (ended (begun ++ (b ∷ [])) l ≡ [] → Grown ((begun ++ (b ∷ [])) ++ l))
        → (cond e (begun ∷ ended [] (l ++ more)) (ended (begun ++ (b ∷ [])) (l ++ more)) ≡ ended (begun ++ (b ∷ l)) more)
        × (cond e (begins [] (l ++ more)) (begins (begun ++ (b ∷ [])) (l ++ more)) ≡ begins (begun ++ (b ∷ l)) more)
    go true m f =
        let o : suc (length (ended [] l)) ≡ 0 = ap length m in
        absurd (omega (arith, o))
    go false m f =
        let i = f m in
        let e : (begun ++ (b ∷ [])) ++ l ≡ begun ++ (b ∷ l) = append_assoc begun (b ∷ []) l in
        (i.0 ∙ ap (λ (x : List ℕ). ended x more) e, i.1 ∙ ap (λ (x : List ℕ). begins x more) e)

-- Where no line has ended in over 128 bytes of input, draw prints its header and the line of zeros with 14, whatever follows.
-- (It rules out a draw that would have to read on to know. That the program stops there is `draw_wants`, programs/specs/Loops.)
pub long_first_line : (input more : List ℕ) → ended [] input ≡ [] → 128 < length input → draw_text (input ++ more) ≡ draw_header ++ draw_line (zeros 14)
unfolding draw_text lines
long_first_line input more n h =
    let i = one_line input [] more n in
    ap (λ (t : List ℕ). draw_header ++ t) (rw (i.0, i.1) (only_grows more input h))
