-- `put_tables` meets its contract: each table stands behind all that is written before it. Assumes nothing.
use mathlib.Core.Path.{ap, ◌∙◌}
use mathlib.Core.List.{List, ◌++◌}
use Prim.Native.Nat.{ℕ}
use lib.ListN.{take}
use Rattle.image_layout.proofs.Copying.{behind}
use Rattle.image_layout.proofs.put_tables.Goals as goal

pub returns : goal.returns
returns c =
    let to-ready = behind _ _ _ _ c.put32-2.ensures.1 c.put32.ensures.1 in
    let to-delayed = behind _ _ _ _ c.put32-3.ensures.1 to-ready in
    let to_held = behind _ _ _ _ c.put32-4.ensures.1 to-delayed in
    let to-way = behind _ _ _ _ c.put32-5.ensures.1 to_held in
    let bytes = ap (λ (l : List ℕ). take 192 c.put32-5.new.s ++ l) c.exceptions.ensures in
    let to-pending = behind _ _ _ _ (c.put32-6.ensures.1 ∙ bytes) to-way in
    (c.put32-7.ensures.0, behind _ _ _ _ c.put32-7.ensures.1 to-pending)
