-- A part of bytes: its size, and its bytes. Assumes nothing.
use Prim.Native.Nat.{ℕ, ◌+◌, ◌≤◌, ◌<◌}
use native.Mathlib.Omega.{arith}
use mathlib.Core.Path.{◌≡◌, ◌∙◌}
use mathlib.Core.List.{List}
use lib.ListN.{length, drop, get_or, length-drop}
use lib.Seq.{length-take-le, get_or-take, get_or-drop}
use Rattle.image_form.specs.Layout.{part}

pub part_size : (n at : ℕ) (s : List ℕ) → at + n ≤ length s → length (part n at s) ≡ n
part_size n at s h = length-take-le n (drop at s) (omega (arith, length-drop at s))

pub part_at : (n at : ℕ) (s : List ℕ) (i : ℕ) → i < n → get_or (part n at s) i 0 ≡ get_or s (at + i) 0
part_at n at s i h = get_or-take n (drop at s) i 0 h ∙ get_or-drop at s i 0
