-- What the checks look up by a number: the clock's end, and an op that is none. Assumes nothing.
use Prim.Native.Nat.{ℕ, zero, suc, ◌+◌, ◌-◌, ◌≤◌, ◌<◌, ◌^◌}
use native.Mathlib.Omega.{arith}
use mathlib.Core.Path.{◌≡◌, refl, sym}
use mathlib.Core.Logic.{◌≢◌}
use mathlib.Core.Bool.{Bool, true, false, not}
use lib.Dec.{ltb}
use lib.ListN.{get_or-eq_default}
use borrow.Author.Tests.{ltb-true, ltb-false, lt-ltb, le-ltb}
use Rattle.rules.specs.declared.Kind.TheVariants.{NoKind}
use Rattle.rules.specs.Kinds.{kinds, last_op, kind_at}

-- the clock's end
pub past_end : (clock n : ℕ) → clock < 2 ^ 64 → ltb (18446744073709551615 - clock) n ≡ not (ltb (clock + n) (2 ^ 64))
past_end clock n h = go (ltb (clock + n) (2 ^ 64)) refl
  where
    go : (b : Bool) → ltb (clock + n) (2 ^ 64) ≡ b → ltb (18446744073709551615 - clock) n ≡ not b
    go true e = let z : clock + n < 2 ^ 64 = ltb-true _ _ e in le-ltb (18446744073709551615 - clock) n (omega arith)
    go false e = let z : 2 ^ 64 ≤ clock + n = ltb-false _ _ e in lt-ltb (18446744073709551615 - clock) n (omega arith)

-- What a match on 1, 2, .. n leaves: none of these; then it is 0 or above n.
abbrev pub Apart : ℕ → ℕ → Type 0
Apart zero op = Unit {0}
Apart (suc n) op = Apart n op × (op ≢ suc n)

beyond : (n op : ℕ) → Apart n op → op ≢ 0 → n < op
beyond zero op apart some = omega arith
beyond (suc n) op apart some = let h : n < op = beyond n op apart.0 some in let d : op ≢ suc n = apart.1 in omega arith

-- So what is none of the ops has no kind.
pub no_op : (op : ℕ) → Apart last_op op → NoKind ≡ kind_at op
no_op zero apart = refl
no_op (suc op) apart = sym (get_or-eq_default kinds NoKind (beyond last_op (suc op) apart (λ z. omega arith)))
