-- Text put behind text, where there is room for it; and a turn of the loop over a list. Assumes nothing.
use Prim.Native.Nat.{ℕ, suc, ◌+◌, ◌-◌, ◌*◌, ◌≤◌, ◌<◌}
use native.Mathlib.Omega.{arith}
use mathlib.Core.Path.{◌≡◌, refl, ap, sym, ◌∙◌}
use mathlib.Core.List.{List, [], ◌∷◌, ◌++◌}
use lib.ListN.{length, take, drop, get_or, length-append}
use lib.Seq.{sets, length-sets, take-length}
use Rattle.decimal.proofs.Stores as stores
use Rattle.decimal.proofs.Stores.{Puts, sets_append}
use Rattle.text.specs.Printed.{Written}
use Rattle.text.proofs.Stores.{and_then}
use Rattle.salvage_text.specs.Lines.{stretch_text, list_text}
use Rattle.salvage_text.proofs.Bounds.{stretch_short}

-- what was put where there is room for it stands there
pub stands : (room : ℕ) (out : List ℕ) (at : ℕ) (text : List ℕ) {after : List ℕ} {next : ℕ} → at + room ≤ length out → Puts room out at text next after
    → Written out at text after next
stands room out at text h p =
    let s = stores.put room out at text h in
    record { contents = p.1 ∙ sym s.1; place = p.0 ∙ sym s.0 }

-- a buffer keeps its length
pub as_long : {out : List ℕ} {at : ℕ} {text after : List ℕ} {next : ℕ} → Written out at text after next → length after ≡ length out
as_long {out} {at} {text} w = ap length w.contents ∙ length-sets out at text

-- one text behind another
pub then_put : (room : ℕ) (ys : List ℕ) {out o o' : List ℕ} {at p q : ℕ} {xs : List ℕ} → Written out at xs o p → at + length xs + room ≤ length out
    → Puts room o p ys q o' → Written out at (xs ++ ys) o' q
then_put room ys {out} {o} {o'} {at} {p} w h q = let l = as_long w in let e = w.place in and_then w (stands room o p ys (omega arith) q)

-- ---- the loop over a list: what is left of it is put behind what was put

no_more : (left : List ℕ) → length left < 2 → list_text left ≡ []
unfolding list_text
no_more [] h = refl
no_more (first ∷ []) h = refl
no_more (first ∷ (size ∷ more)) h = absurd (omega arith)

one_more : (first size : ℕ) (more : List ℕ) → list_text (first ∷ (size ∷ more)) ≡ stretch_text first size ++ list_text more
unfolding list_text
one_more first size more = refl

-- So far: the buffer, with what is left put behind, is the buffer that is wanted; so is the place behind it; and there is room for what is left.
pub record Left (cells out₀ out : List ℕ) (at : ℕ) (left : List ℕ) : Type 0 where
  pub long : length out ≡ length out₀
  pub contents : sets out at (list_text left) ≡ sets out₀ 0 (list_text cells)
  pub place : at + length (list_text left) ≡ length (list_text cells)
  pub roomy : at + 35 * length left ≤ 35 * length cells

pub all_left : (cells out : List ℕ) → Left cells out out 0 cells
all_left cells out = record { long = refl; contents = refl; place = omega arith; roomy = omega arith }

module _ (cells out₀ out : List ℕ) (at : ℕ) where
  less : (first size : ℕ) (more out' : List ℕ) (next : ℕ) → Left cells out₀ out at (first ∷ (size ∷ more))
      → Written out at (stretch_text first size) out' next → Left cells out₀ out' next more
  less first size more out' next s w =
      let text = stretch_text first size in
      let e = one_more first size more in
      let n = ap length e ∙ length-append text (list_text more) in
      record {
        long = as_long w ∙ s.long;
        contents = rw (w.contents, w.place) (sym (sets_append out at text (list_text more))) ∙ rw e at s.contents;
        place = omega (arith, w.place, n, s.place);
        roomy = omega (arith, w.place, s.roomy, stretch_short first size);
      }

  pub less_left : (left out' : List ℕ) (next : ℕ) → 2 ≤ length left → Left cells out₀ out at left
      → Written out at (stretch_text (get_or left 0 0) (get_or left 1 0)) out' next → Left cells out₀ out' next (take (length left - 2) (drop 2 left))
  less_left [] out' next o s w = absurd (omega arith)
  less_left (first ∷ []) out' next o s w = absurd (omega arith)
  less_left (first ∷ (size ∷ more)) out' next o s w =
      let z : suc (suc (length more)) - 2 ≡ length more = omega arith in rw (z, take-length more) (less first size more out' next s w)

  pub none_left : (left : List ℕ) → Left cells out₀ out at left → length left < 2 → Written out₀ 0 (list_text cells) out at
  none_left left s h =
      let e = no_more left h in
      record { contents = rw e at s.contents; place = let n = ap length e in omega (arith, n, s.place) }
