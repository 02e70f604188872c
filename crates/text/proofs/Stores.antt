-- Text that stands in a buffer where it was put, one behind another, and the loop that copies. Assumes nothing.
use Prim.Native.Nat.{ℕ, ◌+◌, ◌-◌, ◌<◌, ◌≤◌}
use native.Mathlib.Numerals.{add-one}
use native.Mathlib.Nat.{add-suc}
use native.Mathlib.Omega.{arith}
use mathlib.Core.Path.{◌≡◌, refl, sym, ◌∙◌}
use mathlib.Core.List.{List, [], ◌∷◌, ◌++◌}
use mathlib.Core.Bool.{Bool, true, false}
use borrow.Author.Tests.{le-leb, lt-leb, leb-true, leb-false}
use lib.ListN.{length, set, drop, get_or, length-append, drop_of_length-le}
use lib.Seq.{sets, drop-cons}
use lib.Dec.{leb}
use Rattle.decimal.specs.Decimal.{decimal}
use Rattle.decimal.specs.Buffer.{contents_after, place_after}
use Rattle.decimal.proofs.Stores.{sets_append, put}
use Rattle.decimal.proofs.BothWays.{decimal_most}
use Rattle.text.specs.Printed.{Written, field}

pub written : (room : ℕ) (out : List ℕ) (at : ℕ) (text after : List ℕ) (next : ℕ) → at + room ≤ length out → Written out at text after next
    → (next ≡ place_after room out at text) × (after ≡ contents_after room out at text)
written room out at text after next h w = let p = put room out at text h in (w.place ∙ p.0, w.contents ∙ p.1)

-- one text behind another
pub and_then : {out o o' : List ℕ} {at p q : ℕ} {xs ys : List ℕ} → Written out at xs o p → Written o p ys o' q → Written out at (xs ++ ys) o' q
and_then {out} {o} {o'} {at} {p} {q} {xs} {ys} w v =
    record {
      contents = v.contents ∙ rw (w.contents, w.place) (sym (sets_append out at xs ys));
      place = let e : p ≡ at + length xs = w.place in let d : q ≡ p + length ys = v.place in rw length-append (omega arith);
    }

-- a decimal, and the byte behind it
module _ (out : List ℕ) (at n next : ℕ) (after : List ℕ) (h : at + 21 ≤ length out) (ep : next ≡ place_after 20 out at (decimal n))
    (ec : after ≡ contents_after 20 out at (decimal n)) where
  decimal_place : next ≡ at + length (decimal n)
  decimal_place = ep ∙ sym (put 20 out at (decimal n) (omega arith)).0

  pub decimal_within : next ≤ at + 20
  decimal_within = let e : next ≡ at + length (decimal n) = decimal_place in omega (arith, decimal_most n)

  pub field_written : (end : ℕ) → Written out at (field n end) (set after next end) (next + 1)
  field_written end =
      let e : next ≡ at + length (decimal n) = decimal_place in
      let c : after ≡ sets out at (decimal n) = ec ∙ sym (put 20 out at (decimal n) (omega arith)).1 in
      record { contents = rw (c, e) (sym (sets_append out at (decimal n) (end ∷ []))); place = rw length-append (omega arith) }

-- ---- the loop that copies, at index i

module _ (out : List ℕ) (at : ℕ) (text : List ℕ) (i : ℕ) where
  pub copied : i < length text → sets (set out (at + i) (get_or text i 0)) (at + (i + 1)) (drop (i + 1) text) ≡ sets out (at + i) (drop i text)
  copied h = rw (add-one, add-suc, drop-cons text i 0 h)

  pub all_copied : length text ≤ i → sets out (at + i) (drop i text) ≡ out
  all_copied h = rw (drop_of_length-le text h)

-- ---- room

pub room_left : (len at need : ℕ) → need ≤ len → leb at (len - need) ≡ leb (at + need) len
room_left len at need h = go (leb at (len - need)) refl
  where
    go : (b : Bool) → leb at (len - need) ≡ b → b ≡ leb (at + need) len
    go true e = let l : at ≤ len - need = leb-true at (len - need) e in sym (le-leb (at + need) len (omega arith))
    go false e = let l : len - need < at = leb-false at (len - need) e in sym (lt-leb (at + need) len (omega arith))
