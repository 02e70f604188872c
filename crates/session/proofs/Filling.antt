-- A buffer that a loop fills with lines. The idea: what was put so far, with what is still to be put stored behind it, is the whole; so each turn
-- takes one line off what is left. One law for all loops that print: those over the lines of a piece, of walk and of draw, and the one over draws.
-- Assumes nothing.
use Prim.Native.Nat.{ℕ, zero, suc, ◌+◌, ◌-◌, ◌*◌, ◌<◌, ◌≤◌}
use native.Mathlib.Omega.{arith}
use native.Mathlib.Nat.{add-zero}
use mathlib.Core.Path.{◌≡◌, refl, sym, ◌∙◌}
use mathlib.Core.List.{List, [], ◌++◌}
use borrow.Author.Tests.{le-leb}
use lib.ListN.{length, length-append}
use lib.Seq.{sets, length-sets}
use Rattle.decimal.specs.Buffer.{contents_after, place_after, InFront}
use Rattle.decimal.proofs.Stores.{sets_append, in_front}

-- `room` bytes for each of the lines that may still come
module _ (room : ℕ) (out₀ whole : List ℕ) where
  pub record Filling (rest : List ℕ) (at left : ℕ) (out : List ℕ) : Type 0 where
    pub text : sets out at rest ≡ sets out₀ 0 whole
    pub place : at + length rest ≡ length whole
    pub size : length out ≡ length out₀
    pub spare : at + room * left ≤ length out

  pub filling_first : (n : ℕ) → room * n ≤ length out₀ → Filling whole 0 n out₀
  filling_first n o = record { text = refl; place = omega arith; size = refl; spare = omega arith }

  -- a line is put, and there is room for one less
  one_less : (left : ℕ) → 0 < left → room * left ≡ room + room * (left - 1)
  one_less zero o = absurd (omega arith)
  one_less (suc left) o = let e : suc left - 1 ≡ left = omega arith in rw e (omega arith)

  module _ (line rest : List ℕ) (at left : ℕ) (out : List ℕ) (f : Filling (line ++ rest) at left out) (short : length line ≤ room) (o : 0 < left) where
    put_line : Filling rest (at + length line) (left - 1) (sets out at line)
    put_line =
        record {
          text = sym (sets_append out at line rest) ∙ f.text;
          place = let t = simp length-append at f.place in omega (arith, t);
          size = length-sets out at line ∙ f.size;
          spare = simp length-sets (omega (arith, f.spare, one_less left o, short));
        }

    pub filling_on : (at' : ℕ) (out' : List ℕ) → at' ≡ place_after room out at line → out' ≡ contents_after room out at line → Filling rest at' (left - 1) out'
    filling_on at' out' ea eo =
        let i : at + room ≤ length out = omega (arith, f.spare, one_less left o) in
        rw (ea, eo, le-leb (at + room) (length out) i) put_line

  -- nothing is left: all is put, and stands in front
  module _ (at left : ℕ) (out : List ℕ) (f : Filling [] at left out) where
    pub filled_at : at ≡ length whole
    filled_at = sym (add-zero at) ∙ f.place

    pub filled_out : out ≡ sets out₀ 0 whole
    filled_out = f.text

    pub filled_front : InFront at out
    filled_front = in_front at out (omega (arith, f.spare))
