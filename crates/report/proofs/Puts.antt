-- Text put at a place, one behind another. Assumes nothing.
use Prim.Native.Nat.{ℕ, zero, suc, ◌+◌, ◌-◌, ◌≤◌, ◌<◌}
use native.Mathlib.Omega.{arith}
use mathlib.Core.Path.{◌≡◌, refl, sym, ◌∙◌}
use mathlib.Core.Logic.{◌≢◌}
use mathlib.Core.List.{List, [], ◌++◌}
use lib.ListN.{length, get_or, get_or-eq_default}
use Rattle.decimal.proofs.Stores as stores
use Rattle.decimal.proofs.Stores.{Puts}
use Rattle.text.specs.Commands.{words}
use Rattle.text.proofs.Stores.{and_then}
use Rattle.report.specs.Put.{Put}

-- what was put where there is room for it stands there, and is at most so long as it may be
pub stands : {room : ℕ} {out : List ℕ} {at : ℕ} {text after : List ℕ} {next : ℕ} → at + room ≤ length out → length text ≤ room
    → Puts room out at text next after → Put room out at text after next
stands {room} {out} {at} {text} {after} {next} h l p =
    let s = stores.put room out at text h in
    let place : next ≡ at + length text = p.0 ∙ sym s.0 in
    record { written = record { contents = p.1 ∙ sym s.1; place = place }; within = omega arith }

-- nothing
pub none : (most : ℕ) (out : List ℕ) (at : ℕ) → Put most out at [] out at
none most out at = record { written = record { contents = refl; place = omega arith }; within = omega arith }

-- one text behind another
pub then : {m k : ℕ} {out o o' : List ℕ} {at p q : ℕ} {xs ys : List ℕ} → Put m out at xs o p → Put k o p ys o' q → Put (m + k) out at (xs ++ ys) o' q
then w v = record { written = and_then w.written v.written; within = omega arith }

-- room for more than that
pub wider : {m : ℕ} (k : ℕ) {out after : List ℕ} {at next : ℕ} {text : List ℕ} → m ≤ k → Put m out at text after next → Put k out at text after next
wider k h w = record { written = w.written; within = omega arith }

-- ---- words: that of op 1 stands first, and past that of the last op there is none

-- What a match on 2, 3, .. up to n + 1 leaves: none of these; so what is above 1 is above n + 1.
abbrev pub Apart : ℕ → ℕ → Type 0
Apart zero op = Unit {0}
Apart (suc n) op = Apart n op × (op ≢ suc (suc n))

beyond : (n op : ℕ) → 1 < op → Apart n op → suc n < op
beyond zero op h apart = omega arith
beyond (suc n) op h apart = let k : suc n < op = beyond n op h apart.0 in let d : op ≢ suc (suc n) = apart.1 in omega arith

module _ (op : ℕ) where
  pub first_word : op < 2 → op - 1 ≡ 0
  first_word h = omega arith

  pub no_word : 1 < op → Apart (length words - 1) op → [] ≡ get_or words (op - 1) []
  no_word h apart =
      let k = beyond (length words - 1) op h apart in
      let l : length words ≤ op - 1 = omega arith in
      sym (get_or-eq_default words [] l)
