-- `generator_menu::command_for` meets its contract, by what its callees ensure of each column. Assumes nothing.
use Prim.Native.Nat.{ℕ, ◌+◌, ◌%◌}
use mathlib.Core.Path.{◌≡◌}
use mathlib.Core.Bool.{Bool, cond}
use mathlib.Core.List.{[], ◌∷◌}
use Rattle.rules.specs.Line.{at}
use Rattle.kernel_checks.specs.declared.Command.{Command}
use Rattle.generator_menu.specs.Tables.{delay_time, command_at}
use Rattle.generator_menu.proofs.command_for.Goals as goal

-- the command of the columns, cell by cell
whole : (clock object : ℕ) (quiet : Bool) (x y i op b value entry delay wide : ℕ)
    → op ≡ at (4 ∷ 5 ∷ 6 ∷ 7 ∷ 8 ∷ 9 ∷ 10 ∷ 11 ∷ []) i
    → b ≡ at (0 ∷ 0 ∷ 0 ∷ 0 ∷ y % 256 ∷ 0 ∷ entry ∷ y % 256 ∷ []) i
    → value ≡ at (delay ∷ 0 ∷ (1 + wide) ∷ 0 ∷ 0 ∷ 0 ∷ 0 ∷ 0 ∷ []) i
    → entry ≡ cond quiet (y % 256) 1 → delay ≡ delay_time clock x → wide ≡ x
    → ◌≡◌ {A = Command} (record { op = op; a = object; b = b; value = value }) (command_at clock object quiet x y i)
unfolding command_at
whole clock object quiet x y i op b value entry delay wide e f g h j k = rw (e, f, g, h, j, k)

pub returns : goal.returns
returns c =
    let a = c.args in
    whole a.clock a.object a.quiet a.x a.y a.i _ _ _ _ _ _ c.cell.ensures c.cell-2.ensures
    c.long_cell.ensures
    c.choose-at_entry.ensures c.delay_time-delay.ensures
    c.wider-advance.ensures.0
