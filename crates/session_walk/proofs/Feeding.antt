-- The loop that takes a piece apart, line by line: each turn takes one line off the lines that are left. Assumes nothing.
use Prim.Native.Nat.{ℕ, suc, ◌-◌, ◌*◌, ◌<◌, ◌≤◌}
use native.Mathlib.Omega.{arith}
use mathlib.Core.Bool.{true}
use mathlib.Core.Path.{◌≡◌, refl, sym, ◌∙◌}
use mathlib.Core.List.{List, []}
use borrow.Author.Tests.{le-leb, lt-leb}
use lib.ListN.{length}
use Rattle.kernel.specs.declared.Kernel.{Kernel}
use Rattle.text.specs.declared.Spoken.{Spoken}
use Rattle.text.specs.declared.Row.{Row}
use Rattle.text.specs.declared.Held.{Held}
use Rattle.text.specs.declared.Cut.{Cut}
use Rattle.decimal.specs.Buffer.{contents_after, place_after, InFront}
use Rattle.text.specs.Commands.{command_of}
use Rattle.text.specs.Lines.{cut_of, cuts, holds_after, held_bytes, nothing_held}
use Rattle.text.specs.Printed.{walk_line}
use Rattle.session_walk_text.specs.declared.Walk.{Walk}
use Rattle.session.specs.CarriedOut.{following, state_behind, row_for, CarriesOut, state_after}
use Rattle.session_walk_text.specs.Walk.{walked, number_after, text_for, walk_after, fed, fed_out}
use Rattle.text.proofs.Bounds.{walk_short}
use Rattle.decimal.proofs.Stores.{in_front}
use Rattle.session.proofs.Cuts.{cuts_whole, holds_whole}
use Rattle.session.proofs.Filling.{Filling, filling_first, filling_on, filled_at, filled_out, filled_front}

made : {k k' : Kernel} {h h' : Held} {n n' : ℕ} → k ≡ k' → h ≡ h' → n ≡ n'
    → ◌≡◌ {A = Walk} (record { kernel = k; held = h; n = n }) (record { kernel = k'; held = h'; n = n' })
made a b d = cc

-- ---- the invariant: from where the loop stands to where it began

module _ (w : Walk) (p out₀ : List ℕ) where
  pub record Still (k : Kernel) (h : Held) (n from at left : ℕ) (out : List ℕ) : Type 0 where
    pub filling : Filling 128 out₀ (text_for w p) (walked k n (cuts left h p from)) at left out
    pub state : state_after k (cuts left h p from) ≡ (walk_after w p).kernel
    pub number : number_after n (cuts left h p from) ≡ (walk_after w p).n
    pub held : holds_after left h p from ≡ (walk_after w p).held

  pub still_first : 128 * suc (length p) ≤ length out₀ → Still w.kernel w.held w.n 0 0 (suc (length p)) out₀
  unfolding text_for walk_after
  still_first o = record { filling = filling_first 128 out₀ (text_for w p) (suc (length p)) o; state = refl; number = refl; held = refl }

  module _ (k : Kernel) (h : Held) (n from at left : ℕ) (out : List ℕ) (s : Still k h n from at left out) where
    module _ (c : Cut) (e : c ≡ cut_of h p from) where
      -- a whole line
      still_line : (at' : ℕ) (out' : List ℕ)
          → at' ≡ place_after 128 out at (walk_line (row_for k (following n) (command_of (held_bytes c.held))))
          → out' ≡ contents_after 128 out at (walk_line (row_for k (following n) (command_of (held_bytes c.held))))
          → 0 < left → c.whole ≡ true
          → Still (state_behind k (command_of (held_bytes c.held))) nothing_held (following n) c.next at' (left - 1) out'
      unfolding walked state_after number_after
      still_line at' out' ea eo o y =
          let q = cuts_whole h p from c e left o y in
          let row = row_for k (following n) (command_of (held_bytes c.held)) in
          record {
            filling = filling_on 128 out₀ (text_for w p) (walk_line row) _ at left out (rw q at s.filling) (walk_short row) o at' out' ea eo;
            state = rw q at s.state;
            number = rw q at s.number;
            held = sym (holds_whole h p from c e left o y) ∙ s.held;
          }

      module _ (n' at' next : ℕ) (spoken : Spoken) (k' : Kernel) (row : Row) (out' : List ℕ) (h' : Held) (ex : next ≡ c.next)
          (en : n' ≡ following n) (es : spoken ≡ command_of (held_bytes c.held)) (et : CarriesOut k n' spoken row k')
          (ea : at' ≡ place_after 128 out at (walk_line row)) (eo : out' ≡ contents_after 128 out at (walk_line row)) (eh : h' ≡ nothing_held) where
        pub still_again : 0 < left → c.whole ≡ true → Still k' h' n' next at' (left - 1) out'
        still_again o y = rw (ex, eh, et.0, es, en) (still_line at' out' (rw (et.1, es, en) at ea) (rw (et.1, es, en) at eo) o y)

    -- no line is left: what is left of the piece is held
    module _ (h' : Held) (z : cuts left h p from ≡ []) (eh : holds_after left h p from ≡ h') where
      pub all_walked : 128 * suc (length p) ≤ length out₀
          → (record { walk = record { kernel = k; held = h'; n = n }; at = at } ≡ fed w p out₀) × (out ≡ fed_out w p out₀) × InFront at out
      unfolding walked state_after number_after
      all_walked o =
          let f : Filling 128 out₀ (text_for w p) [] at left out = rw z at s.filling in
          let a = filled_at 128 out₀ (text_for w p) at left out f in
          let r : record { kernel = k; held = h'; n = n } ≡ walk_after w p = made (rw z at s.state) (sym eh ∙ s.held) (rw z at s.number) in
          let l = le-leb (128 * suc (length p)) (length out₀) o in
          (rw (l, ← a, ← r), rw l (filled_out 128 out₀ (text_for w p) at left out f), filled_front 128 out₀ (text_for w p) at left out f)

  pub no_room : length out₀ < 128 * suc (length p) → (record { walk = w; at = 0 } ≡ fed w p out₀) × (out₀ ≡ fed_out w p out₀) × InFront 0 out₀
  no_room o = (rw (lt-leb (128 * suc (length p)) (length out₀) o), rw (lt-leb (128 * suc (length p)) (length out₀) o), in_front 0 out₀ (omega arith))
