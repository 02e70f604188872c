-- Text put at a place, one behind another. Assumes nothing.
use Prim.Native.Nat.{ℕ, ◌+◌, ◌≤◌}
use native.Mathlib.Omega.{arith}
use mathlib.Core.Path.{◌≡◌, refl, ap, sym, ◌∙◌}
use mathlib.Core.List.{List, [], ◌++◌}
use lib.ListN.{length}
use lib.Seq.{length-sets}
use Rattle.decimal.proofs.Stores as stores
use Rattle.decimal.proofs.Stores.{Puts}
use Rattle.text.proofs.Stores.{and_then}
use Rattle.text_print.specs.Put.{Put}

-- what was put where there is room for it stands there, and is at most so long as it may be
pub stands : (room most : ℕ) {out : List ℕ} {at : ℕ} {text after : List ℕ} {next : ℕ} → at + room ≤ length out → length text ≤ most
    → Puts room out at text next after → Put most out at text after next
stands room most {out} {at} {text} {after} {next} h l p =
    let s = stores.put room out at text h in
    let place : next ≡ at + length text = p.0 ∙ sym s.0 in
    let contents = p.1 ∙ sym s.1 in
    record {
      written = record { contents = contents; place = place };
      within = omega arith;
      long = ap length contents ∙ length-sets out at text;
    }

-- nothing
pub none : (most : ℕ) (out : List ℕ) (at : ℕ) → Put most out at [] out at
none most out at = record { written = record { contents = refl; place = omega arith }; within = omega arith; long = refl }

-- one text behind another
pub then : {m k : ℕ} {out o o' : List ℕ} {at p q : ℕ} {xs ys : List ℕ} → Put m out at xs o p → Put k o p ys o' q → Put (m + k) out at (xs ++ ys) o' q
then w v = record { written = and_then w.written v.written; within = omega arith; long = v.long ∙ w.long }

-- room for more than that, and for no more than the text has
pub wider : {m : ℕ} (k : ℕ) {out after : List ℕ} {at next : ℕ} {text : List ℕ} → m ≤ k → Put m out at text after next → Put k out at text after next
wider k h w = record { written = w.written; within = omega arith; long = w.long }
