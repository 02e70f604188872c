-- `salvage_print::put_counts` meets its contract: one text behind another. Assumes nothing.
use Prim.Native.Nat.{ℕ, ◌≤◌}
use native.Mathlib.Omega.{arith}
use mathlib.Core.List.{List, ◌++◌}
use lib.ListN.{length, length-append}
use Rattle.decimal.specs.Decimal.{decimal}
use Rattle.decimal.proofs.BothWays.{decimal_most}
use Rattle.decimal.proofs.Stores.{Puts}
use Rattle.text.specs.Printed.{Written}
use Rattle.text.specs.Words.{bytes}
use Rattle.text.proofs.Stores.{and_then}
use Rattle.salvage_text.specs.Lines.{last_text, last_room}
use Rattle.salvage_print.proofs.Behind.{stands, then_put, as_long}
use Rattle.salvage_print.proofs.put_counts.Goals as goal

-- all in front of the last word
in_front : {out o₁ o₂ o₃ o₄ o₅ : List ℕ} {p₁ p₂ p₃ p₄ p₅ : ℕ} (records dropped : ℕ) → last_room ≤ length out → Puts 14 out 0 (bytes "kept: records ") p₁ o₁
    → Puts 20 o₁ p₁ (decimal records) p₂ o₂ → Puts 16 o₂ p₂ (bytes ", dropped bytes ") p₃ o₃ → Puts 20 o₃ p₃ (decimal dropped) p₄ o₄
    → Puts 9 o₄ p₄ (bytes ", header ") p₅ o₅
    → Written out 0 (bytes "kept: records " ++ decimal records ++ bytes ", dropped bytes " ++ decimal dropped ++ bytes ", header ") o₅ p₅
in_front {out} records dropped h s₁ s₂ s₃ s₄ s₅ =
    let n = decimal_most records in
    let m = decimal_most dropped in
    let w₁ = stands 14 out 0 (bytes "kept: records ") (omega arith) s₁ in
    let w₂ = then_put 20 (decimal records) w₁ (omega arith) s₂ in
    let w₃ = then_put 16 (bytes ", dropped bytes ") w₂ (simp length-append (omega (arith, n))) s₃ in
    let w₄ = then_put 20 (decimal dropped) w₃ (simp length-append (omega (arith, n))) s₄ in
    then_put 9 (bytes ", header ") w₄ (simp length-append (omega (arith, n, m))) s₅

pub put_yes_no-requires : goal.put_yes_no-requires
put_yes_no-requires c =
    let a = c.args in
    let w =
    in_front a.records a.dropped c.requires c.put_text-kept.ensures c.put_decimal-comma.ensures c.put_text-bytes.ensures c.put_decimal-next.ensures
    c.put_text-header.ensures in
    omega (arith, simp length-append at w.place, as_long w, decimal_most a.records, decimal_most a.dropped)

pub returns : goal.returns
unfolding last_text
returns c =
    let a = c.args in
    and_then
    (in_front a.records a.dropped c.requires c.put_text-kept.ensures c.put_decimal-comma.ensures c.put_text-bytes.ensures c.put_decimal-next.ensures
    c.put_text-header.ensures)
    c.put_yes_no.ensures
