-- A reader of commands: a line read where it lies says what it says when it is held, and the commands out of pieces, cut anywhere, are
-- those of the lines of the whole. Assumes nothing.
use Prim.Native.Nat.{ℕ, zero, suc, ◌+◌, ◌-◌, ◌≤◌, ◌<◌}
use native.Mathlib.Omega.{arith}
use mathlib.Core.Bool.{Bool, true, false, cond}
use mathlib.Core.Path.{◌≡◌, refl, ap, sym, ◌∙◌}
use mathlib.Core.List.{List, [], ◌∷◌, ◌++◌, map, map-append}
use lib.ListN.{length, take, drop}
use Rattle.rules.specs.Line.{empty, joined}
use Rattle.text.specs.declared.Held.{Held}
use Rattle.text.specs.declared.Cut.{Cut}
use Rattle.text.specs.declared.Spoken.{Spoken}
use Rattle.text.specs.Words.{before, line_end}
use Rattle.text.specs.Commands.{command_of, no_command}
use Rattle.text.specs.Lines.{lines, kept, held_bytes, nothing_held, hold_more, end_from, cut_of, next_command_of, cuts, commands_in, last_piece}
use Rattle.text.specs.Lines.{last_command, holds_after, lines_of_pieces, commands_of_pieces}
use Rattle.text.proofs.Scan.{word_part}
use Rattle.text.proofs.Kept.{kept_says}
use Rattle.text.proofs.Holding.{cut_whole}
use Rattle.text.proofs.Pieces.{held_more, pieces_whole}

pub end_onward : (s : List ℕ) (at : ℕ) → at ≤ end_from s at
unfolding end_from
end_onward s at = omega arith

module _ (h : Held) (s : List ℕ) (at : ℕ) where
  pub next_whole : (c : Cut) (spoken : Spoken) (none : Held) → c ≡ cut_of h s at → c.whole ≡ true → spoken ≡ command_of (held_bytes c.held)
      → none ≡ nothing_held
      → record { whole = true; spoken = spoken; held = none; next = c.next } ≡ next_command_of h s at
  unfolding next_command_of
  next_whole c spoken none e w d n = rw (← e, w, d, n)

  pub next_part : (c : Cut) (spoken : Spoken) → c ≡ cut_of h s at → c.whole ≡ false → spoken ≡ no_command
      → record { whole = false; spoken = spoken; held = c.held; next = c.next } ≡ next_command_of h s at
  unfolding next_command_of
  next_part c spoken e w d = rw (← e, w, d)

  -- nothing held, and the whole line in the piece
  pub next_at_once : (end : ℕ) (spoken : Spoken) (none : Held) → length h.bytes ≡ 129 → h.count ≡ 0 → end ≡ end_from s at → end < length s
      → spoken ≡ command_of (take (end - at) (drop at s)) → none ≡ nothing_held
      → record { whole = true; spoken = spoken; held = none; next = end + 1 } ≡ next_command_of h s at
  unfolding end_from
  next_at_once end spoken none b z e l d n =
      let w = before line_end (drop at s) in
      let p : take (end - at) (drop at s) ≡ w = word_part 10 s at end e in
      let c = cut_whole h s at end (hold_more h w) e (ap (hold_more h) (sym p)) l in
      next_whole (record { whole = true; held = hold_more h w; next = end + 1 }) spoken none c refl
      (d ∙ ap command_of p ∙ sym (kept_says w) ∙ ap command_of (sym (held_more h w b ∙ ap (λ (k : ℕ). kept (take k h.bytes ++ w)) z)))
      n

-- ---- commands out of pieces

tells_cuts : (n : ℕ) (h : Held) (s : List ℕ) (at : ℕ) → commands_in n h s at ≡ map command_of (cuts n h s at)
unfolding commands_in cuts
tells_cuts zero h s at = refl
tells_cuts (suc n) h s at = go (cut_of h s at).whole refl (tells_cuts n nothing_held s (cut_of h s at).next)
  where
    go : (t : Bool) → (cut_of h s at).whole ≡ t
        → commands_in n nothing_held s (cut_of h s at).next ≡ map command_of (cuts n nothing_held s (cut_of h s at).next)
        → commands_in (suc n) h s at ≡ map command_of (cuts (suc n) h s at)
    go true t e =
        let d = next_whole h s at (cut_of h s at) (command_of (held_bytes (cut_of h s at).held)) nothing_held refl t refl refl in
        rw (← d, t) (ap (λ (l : List Spoken). command_of (held_bytes (cut_of h s at).held) ∷ l) e)
    go false t e = let d = next_part h s at (cut_of h s at) no_command refl t refl in rw (← d, t)

last_tells : (w : List ℕ) → last_command w ≡ map command_of (last_piece w)
unfolding last_command
last_tells w = go (empty w)
  where
    go : (t : Bool) → cond t [] (command_of w ∷ []) ≡ map command_of (cond t [] (w ∷ []))
    go true = refl
    go false = refl

pieces_tell : (ps : List (List ℕ)) (h : Held) → commands_of_pieces h ps ≡ map command_of (lines_of_pieces h ps)
unfolding commands_of_pieces lines_of_pieces
pieces_tell [] h = last_tells (held_bytes h)
pieces_tell (p ∷ ps) h =
    rw (tells_cuts (suc (length p)) h p 0, pieces_tell ps (holds_after (suc (length p)) h p 0))
    (sym (map-append command_of (cuts (suc (length p)) h p 0) (lines_of_pieces (holds_after (suc (length p)) h p 0) ps)))

all_kept : (ls : List (List ℕ)) → map command_of (map kept ls) ≡ map command_of ls
all_kept [] = refl
all_kept (l ∷ ls) = rw (kept_says l, all_kept ls)

pub commands_of_pieces_whole : (ps : List (List ℕ)) → commands_of_pieces nothing_held ps ≡ map command_of (lines (joined ps))
commands_of_pieces_whole ps = pieces_tell ps nothing_held ∙ ap (map command_of) (pieces_whole ps) ∙ all_kept (lines (joined ps))
