-- What is kept of an answer is told apart by the test, and read off its number again. Assumes nothing.
use Prim.Native.Nat.{ℕ, ◌/◌, ◌%◌, ◌<◌}
use native.Mathlib.Omega.{arith}
use mathlib.Core.Path.{◌≡◌, refl}
use mathlib.Core.Logic.{◌≢◌}
use mathlib.Core.Bool.{Bool, true, false, ◌&&◌}
use borrow.Author.Tests.{eq-eqb, eqb-true}
use lib.Dec.{eqb}
use Rattle.rules.proofs.Tests.{both_true}
use Rattle.record_kept.specs.declared.Kept.{Kept}
use Rattle.record_kept.specs.Kept.{alike, packed}

made : {c d u v x y : ℕ} → c ≡ d → u ≡ v → x ≡ y
    → ◌≡◌ {A = Kept} (record { code = c; running = record { 0 = u }; released = record { 0 = x } })
    (record { code = d; running = record { 0 = v }; released = record { 0 = y } })
made p q r = cc

-- ## The test passes exactly where code, running and released are the same
-- Rules out: a test that looks at less.
pub alike_true : (x y : Kept) → alike x y ≡ true → x ≡ y
alike_true x y e =
    let p = both_true (eqb x.code y.code && eqb x.running.0 y.running.0) (eqb x.released.0 y.released.0) e in
    let q = both_true (eqb x.code y.code) (eqb x.running.0 y.running.0) p.0 in
    made (eqb-true x.code y.code q.0) (eqb-true x.running.0 y.running.0 q.1) (eqb-true x.released.0 y.released.0 p.1)

pub alike_own : (x y : Kept) → x ≡ y → alike x y ≡ true
alike_own x y e =
    rw (e, eq-eqb y.code y.code refl, eq-eqb y.running.0 y.running.0 refl, eq-eqb y.released.0 y.released.0 refl)

pub unlike : (x y : Kept) → x ≢ y → alike x y ≡ false
unlike x y n = go (alike x y) refl
  where
    go : (t : Bool) → alike x y ≡ t → t ≡ false
    go true e = absurd (n (alike_true x y e))
    go false e = refl

-- ## The number unpacked
-- Code, running and released are read off the number again: they are bytes. Rules out: a packing in which two answers meet.
pub unpacked : (k : Kept) → k.code < 256 → k.running.0 < 256
    → (packed k % 256 ≡ k.code) × (packed k / 256 % 256 ≡ k.running.0) × (packed k / 65536 ≡ k.released.0)
unpacked k c r = (omega arith, omega arith, omega arith)
