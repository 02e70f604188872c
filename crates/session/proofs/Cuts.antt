-- The lines that are left of a piece, one cut on: each turn of a loop over them takes one off. Assumes nothing.
use Prim.Native.Nat.{ℕ, zero, suc, ◌-◌, ◌<◌, ◌≤◌}
use native.Mathlib.Omega.{arith}
use mathlib.Core.Bool.{Bool, true, false, true≢false}
use mathlib.Core.Path.{◌≡◌, refl, sym, ◌∙◌}
use mathlib.Core.List.{List, [], ◌∷◌}
use Rattle.text.specs.declared.Held.{Held}
use Rattle.text.specs.declared.Cut.{Cut}
use Rattle.text.specs.declared.NextCommand.{NextCommand}
use Rattle.text.specs.Commands.{command_of}
use Rattle.text.specs.Lines.{cut_of, next_command_of, cuts, holds_after, held_bytes, nothing_held}

less : (n : ℕ) → suc n - 1 ≡ n
less n = omega arith

module _ (h : Held) (p : List ℕ) (from : ℕ) (c : Cut) (e : c ≡ cut_of h p from) where
  pub cuts_whole : (left : ℕ) → 0 < left → c.whole ≡ true → cuts left h p from ≡ held_bytes c.held ∷ cuts (left - 1) nothing_held p c.next
  unfolding cuts
  cuts_whole zero o w = absurd (omega arith)
  cuts_whole (suc left) o w = rw (← e, w, less left)

  pub holds_whole : (left : ℕ) → 0 < left → c.whole ≡ true → holds_after left h p from ≡ holds_after (left - 1) nothing_held p c.next
  unfolding holds_after
  holds_whole zero o w = absurd (omega arith)
  holds_whole (suc left) o w = rw (← e, w, less left)

  pub cuts_part : (left : ℕ) → 0 < left → c.whole ≡ false → cuts left h p from ≡ []
  unfolding cuts
  cuts_part zero o w = absurd (omega arith)
  cuts_part (suc left) o w = rw (← e, w)

  pub holds_part : (left : ℕ) → 0 < left → c.whole ≡ false → holds_after left h p from ≡ c.held
  unfolding holds_after
  holds_part zero o w = absurd (omega arith)
  holds_part (suc left) o w = rw (← e, w)

module _ (h : Held) (p : List ℕ) (from : ℕ) where
  pub cuts_none : (left : ℕ) → left ≤ 0 → cuts left h p from ≡ []
  unfolding cuts
  cuts_none zero o = refl
  cuts_none (suc left) o = absurd (omega arith)

  pub holds_none : (left : ℕ) → left ≤ 0 → holds_after left h p from ≡ h
  unfolding holds_after
  holds_none zero o = refl
  holds_none (suc left) o = absurd (omega arith)

-- what a reader of commands is told, by the cut: of a whole line its command, and nothing held; else all that there was is held
module _ (h : Held) (p : List ℕ) (from : ℕ) (x : NextCommand) (e : x ≡ next_command_of h p from) where
  pub record Whole : Type 0 where
    pub whole : (cut_of h p from).whole ≡ true
    pub command : x.spoken ≡ command_of (held_bytes (cut_of h p from).held)
    pub held : x.held ≡ nothing_held
    pub next : x.next ≡ (cut_of h p from).next

  pub next_whole : x.whole ≡ true → Whole
  unfolding next_command_of
  next_whole w = go (cut_of h p from).whole refl
    where
      go : (t : Bool) → (cut_of h p from).whole ≡ t → Whole
      go true t = record { whole = t; command = rw (e, t); held = rw (e, t); next = rw (e, t) }
      go false t = absurd (true≢false (sym w ∙ rw (e, t)))

  pub next_part : x.whole ≡ false → ((cut_of h p from).whole ≡ false) × ((cut_of h p from).held ≡ x.held)
  unfolding next_command_of
  next_part w = go (cut_of h p from).whole refl
    where
      whole_as : (cut_of h p from).whole ≡ true → x.whole ≡ true
      whole_as t = rw (e, t)

      go : (t : Bool) → (cut_of h p from).whole ≡ t → ((cut_of h p from).whole ≡ false) × ((cut_of h p from).held ≡ x.held)
      go true t = absurd (true≢false (sym (whole_as t) ∙ w))
      go false t = (t, rw (e, t))
