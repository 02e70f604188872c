-- The table of the powers of ten. That the table in the code is `powers_of_ten` is computed, one entry after the other, where it is lent
-- (proofs/put_number); here is what stands at each place of it. Assumes nothing.
use Prim.Native.Nat.{ℕ, zero, suc, ◌*◌, ◌^◌, ◌<◌}
use native.Mathlib.Nat.{mul_assoc, pow-succ'}
use native.Mathlib.Omega.{arith}
use mathlib.Core.Path.{◌≡◌, ap, sym, ◌∙◌}
use mathlib.Core.List.{List}
use lib.ListN.{length, get_or}
use Rattle.decimal_print.specs.Method.{tenfold, powers_of_ten}

entry : (many p k : ℕ) → k < many → get_or (tenfold many p) k 0 ≡ p * 10 ^ k
entry zero p k h = absurd (omega arith)
entry (suc many) p zero h = omega arith
entry (suc many) p (suc k) h = entry many (p * 10) k (omega arith) ∙ mul_assoc p 10 (10 ^ k) ∙ ap (λ (x : ℕ). p * x) (sym (pow-succ' 10 k))

pub twenty : (powers : List ℕ) → powers ≡ powers_of_ten → length powers ≡ 20
twenty powers e = ap (λ (l : List ℕ). length l) e

pub power_at : (powers : List ℕ) → powers ≡ powers_of_ten → (k : ℕ) → k < 20 → get_or powers k 0 ≡ 10 ^ k
power_at powers e k h = ap (λ (l : List ℕ). get_or l k 0) e ∙ entry 20 1 k h ∙ omega arith
