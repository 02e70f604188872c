-- What is asked of bytes before their tables are read, and of the tables, is together what an image is. Assumes nothing.
use mathlib.Core.Path.{◌≡◌, refl, ap, ◌∙◌}
use mathlib.Core.Bool.{Bool, true, false, ◌&&◌}
use mathlib.Core.List.{List}
use Prim.Native.Nat.{ℕ}
use Rattle.rules_exceptions.specs.Exceptions.{pending_sound}
use Rattle.kernel.specs.Public.{is_sound}
use Rattle.kernel_state.proofs.Steps.{sound_parts}
use Rattle.image_form.specs.Layout.{kernel_of, pending_of, formed, is_image, readable}

regrouped : (a b c : Bool) → (a && (b && c)) ≡ ((a && c) && b)
regrouped false b c = refl
regrouped true false true = refl
regrouped true false false = refl
regrouped true true true = refl
regrouped true true false = refl

pub asked : (s : List ℕ) → is_image s ≡ (readable s && is_sound (kernel_of s))
unfolding is_image readable
asked s =
    let k = kernel_of s in
    ap (λ (b : Bool). formed s && b) (sound_parts k (pending_of s))
    ∙ regrouped (formed s) (is_sound k) (pending_sound k.started k.base (pending_of s))
