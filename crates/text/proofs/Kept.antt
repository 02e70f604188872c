-- What is kept of a line says the same as the line: a line too long stays so. Assumes nothing.
use Prim.Native.Nat.{ℕ, ◌≤◌, ◌<◌}
use native.Mathlib.Omega.{arith}
use mathlib.Core.Bool.{Bool, true, false}
use mathlib.Core.Path.{◌≡◌, refl, ap, sym, ◌∙◌}
use mathlib.Core.List.{List}
use borrow.Author.Tests.{lt-leb, leb-true, leb-false}
use lib.Dec.{leb}
use lib.ListN.{length}
use lib.Seq.{take_all, length-take-le}
use Rattle.text.specs.Commands.{command_of}
use Rattle.text.specs.FirstLine.{first_line_of, refused_with}
use Rattle.text.specs.Lines.{kept}
use Rattle.text.proofs.Parts.{too_long}

pub opens_too_long : (l : List ℕ) → 128 < length l → first_line_of l ≡ refused_with 14
unfolding first_line_of
opens_too_long l h = rw (lt-leb (length l) 128 h)

kept_whole : (l : List ℕ) → length l ≤ 129 → kept l ≡ l
kept_whole l h = take_all 129 l h

kept_length : (l : List ℕ) → 129 < length l → length (kept l) ≡ 129
kept_length l h = length-take-le 129 l (omega arith)

pub kept_says : (l : List ℕ) → command_of (kept l) ≡ command_of l
kept_says l = go (leb (length l) 129) refl
  where
    go : (t : Bool) → leb (length l) 129 ≡ t → command_of (kept l) ≡ command_of l
    go true t = ap command_of (kept_whole l (leb-true (length l) 129 t))
    go false t =
        let h : 129 < length l = leb-false (length l) 129 t in
        sym (too_long (kept l) (omega (arith, kept_length l h))) ∙ too_long l (omega arith)

pub kept_opens : (l : List ℕ) → first_line_of (kept l) ≡ first_line_of l
kept_opens l = go (leb (length l) 129) refl
  where
    go : (t : Bool) → leb (length l) 129 ≡ t → first_line_of (kept l) ≡ first_line_of l
    go true t = ap first_line_of (kept_whole l (leb-true (length l) 129 t))
    go false t =
        let h : 129 < length l = leb-false (length l) 129 t in
        opens_too_long (kept l) (omega (arith, kept_length l h)) ∙ sym (opens_too_long l (omega arith))
