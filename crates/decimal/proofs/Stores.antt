-- Laws of `sets`, a run of stores: one behind another is one run; and of text put where there is room for it. Assumes nothing.
use Prim.Native.Nat.{ℕ, suc, ◌+◌, ◌<◌, ◌≤◌}
use native.Mathlib.Nat.{add-zero, add-suc, suc-add}
use native.Mathlib.Omega.{arith}
use mathlib.Core.Bool.{Bool, true, false, cond}
use mathlib.Core.Path.{◌≡◌, refl, sym}
use mathlib.Core.List.{List, [], ◌∷◌, ◌++◌}
use borrow.Author.Tests.{le-leb, lt-leb, leb-true}
use lib.Dec.{leb}
use lib.ListN.{length, set}
use lib.Seq.{sets, length-sets, length-take-le}
use Rattle.decimal.specs.Buffer.{contents_after, place_after, InFront}

pub sets_append : (l : List ℕ) (i : ℕ) (xs ys : List ℕ) → sets l i (xs ++ ys) ≡ sets (sets l i xs) (i + length xs) ys
sets_append l i [] ys = rw add-zero
sets_append l i (x ∷ xs) ys = rw (add-suc, ← suc-add) (sets_append (set l i x) (suc i) xs ys)

-- a text put into a buffer at a place: the place behind it, and the buffer then
abbrev pub Puts : ℕ → List ℕ → ℕ → List ℕ → ℕ → List ℕ → Type 0
Puts room out at text place after = (place ≡ place_after room out at text) × (after ≡ contents_after room out at text)

-- ---- text put where there is room for it

module _ (room : ℕ) (out : List ℕ) (at : ℕ) (text : List ℕ) where
  pub refused : length out < at + room → Puts room out at text at out
  refused h = (rw (lt-leb (at + room) (length out) h), rw (lt-leb (at + room) (length out) h))

  pub put : at + room ≤ length out → Puts room out at text (at + length text) (sets out at text)
  put h = (rw (le-leb (at + room) (length out) h), rw (le-leb (at + room) (length out) h))

-- ---- what is put where there is room for it stands in front

pub in_front : (n : ℕ) (l : List ℕ) → n ≤ length l → InFront n l
in_front n l h = (h, sym (length-take-le n l h))

module _ (room : ℕ) (text out out' : List ℕ) (at' : ℕ) (ea : at' ≡ place_after room out 0 text) (eo : out' ≡ contents_after room out 0 text) where
  pub put_in_front : length text ≤ room → InFront at' out'
  put_in_front h = rw (ea, eo) (go (leb (0 + room) (length out)) refl)
    where
      go : (b : Bool) → leb (0 + room) (length out) ≡ b → InFront (cond b (0 + length text) 0) (cond b (sets out 0 text) out)
      go true e =
          let r : 0 + room ≤ length out = leb-true (0 + room) (length out) e in
          in_front (0 + length text) (sets out 0 text) (simp length-sets (omega arith))
      go false e = in_front 0 out (omega arith)
