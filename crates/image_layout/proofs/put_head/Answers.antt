-- `put_head` meets its contract: each part stands behind all that is written before it. Assumes nothing.
use Prim.Native.Nat.{ℕ}
use mathlib.Core.Path.{ap, ◌∙◌}
use mathlib.Core.List.{◌∷◌, ◌++◌}
use lib.ListN.{take, replicate}
use Rattle.image_layout.proofs.Copying.{behind}
use Rattle.image_layout.proofs.put_head.Goals as goal

pub returns : goal.returns
returns c =
    let one = ap (λ (x : ℕ). take 8 c.put_number.new.s ++ (x ∷ replicate 7 0)) c.flag.ensures in
    let to-started = behind _ _ _ _ (c.put8.ensures.1 ∙ one) c.put_number.ensures.1 in
    let to-ceiling = behind _ _ _ _ c.put8-2.ensures.1 to-started in
    (c.put8-3.ensures.0, behind _ _ _ _ c.put8-3.ensures.1 to-ceiling)
