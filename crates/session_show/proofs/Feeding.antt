-- The loop that takes a piece apart, line by line: each turn takes one line off the lines that are left. Assumes nothing.
use Prim.Native.Nat.{ℕ, suc, ◌+◌, ◌-◌, ◌*◌, ◌<◌, ◌≤◌}
use native.Mathlib.Omega.{arith}
use mathlib.Core.Bool.{true, cond}
use mathlib.Core.Path.{◌≡◌, refl, sym, ◌∙◌}
use mathlib.Core.List.{List, []}
use borrow.Author.Tests.{le-leb, lt-leb}
use lib.ListN.{length}
use Rattle.kernel_state.specs.declared.State.{State}
use Rattle.queue_chip.specs.declared.Queue.{Queue}
use Rattle.text.specs.declared.Held.{Held}
use Rattle.text.specs.declared.Spoken.{Spoken}
use Rattle.text.specs.declared.Cut.{Cut}
use Rattle.text.specs.Commands.{command_of}
use Rattle.text.specs.Lines.{cut_of, cuts, holds_after, held_bytes, nothing_held}
use Rattle.decimal.proofs.Stores.{in_front}
use Rattle.session.specs.CarriedOut.{following}
use Rattle.session.proofs.Cuts.{cuts_whole, holds_whole}
use Rattle.session.proofs.Filling.{Filling, filling_first, filling_on, filled_at, filled_out, filled_front}
use Rattle.session_walk_text.specs.Walk.{number_after}
use Rattle.show_text.specs.declared.Showing.{Showing}
use Rattle.show_text.specs.Show.{state_behind, queue_behind, line_text, wanted, shown, state_after, queue_after, text_for, show_after}
use Rattle.show_text.specs.Show.{standing, stood, Feeds}
use Rattle.session_show.specs.declared.Done.{Done}
use Rattle.session_show.specs.Carried.{carried, wanted_text, Puts}
use Rattle.session_show.proofs.Carrying.{entry_same}

made : {s s' : State} {q q' : Queue} {h h' : Held} {n n' : ℕ} → s ≡ s' → q ≡ q' → h ≡ h' → n ≡ n'
    → ◌≡◌ {A = Showing} (standing s q h n) (standing s' q' h' n')
made a b d e = cc

-- where there was room, what was put is no longer than an entry
short_put : (out text : List ℕ) (at r : ℕ) (left : List ℕ) → at + 4096 ≤ length out → Puts out at text r left → length text ≤ 4096
short_put out text at r left o p = let e = p.0 in let w = rw (le-leb (at + 4096) (length out) o) at e in omega (arith, w, p.2)

-- ---- the invariant: from where the loop stands to where it began

module _ (only : ℕ) (w : Showing) (p out₀ : List ℕ) where
  pub record Still (s : State) (q : Queue) (h : Held) (n from at left : ℕ) (out : List ℕ) : Type 0 where
    pub filling : Filling 4096 out₀ (text_for only w p) (shown only s q n (cuts left h p from)) at left out
    pub state : state_after s (cuts left h p from) ≡ (show_after w p).state
    pub queue : queue_after s q (cuts left h p from) ≡ (show_after w p).queue
    pub number : number_after n (cuts left h p from) ≡ (show_after w p).n
    pub held : holds_after left h p from ≡ (show_after w p).held

  pub still_first : 4096 * suc (length p) ≤ length out₀ → Still w.state w.queue w.held w.n 0 0 (suc (length p)) out₀
  unfolding text_for show_after
  still_first o =
      record { filling = filling_first 4096 out₀ (text_for only w p) (suc (length p)) o; state = refl; queue = refl; number = refl; held = refl }

  module _ (s : State) (q : Queue) (h : Held) (n from at left : ℕ) (out : List ℕ) (i : Still s q h n from at left out) where
    module _ (c : Cut) (e : c ≡ cut_of h p from) where
      abbrev said : Spoken
      said = command_of (held_bytes c.held)

      -- a whole line
      still_line : (at' : ℕ) (out' : List ℕ) → Puts out at (cond (wanted only (following n)) (line_text s q (following n) said) []) at' out'
          → 0 < left → c.whole ≡ true
          → Still (state_behind s said) (queue_behind s q said) nothing_held (following n) c.next at' (left - 1) out'
      unfolding shown state_after queue_after number_after
      still_line at' out' put o y =
          let z = cuts_whole h p from c e left o y in
          let text = cond (wanted only (following n)) (line_text s q (following n) said) [] in
          let f = i.filling in
          let room : at + 4096 ≤ length out = omega (arith, f.spare, o) in
          record {
            filling = filling_on 4096 out₀ (text_for only w p) text _ at left out (rw z at f) (short_put out text at at' out' room put) o at' out' put.0 put.1;
            state = rw z at i.state;
            queue = rw z at i.queue;
            number = rw z at i.number;
            held = sym (holds_whole h p from c e left o y) ∙ i.held;
          }

      module _ (n' at' next : ℕ) (spoken : Spoken) (d : Done) (out' : List ℕ) (h' : Held) (ex : next ≡ c.next) (en : n' ≡ following n)
          (es : spoken ≡ said) (et : d ≡ carried s q n' spoken) (eh : h' ≡ nothing_held) (ep : Puts out at (wanted_text only d) at' out') where
        pub still_again : 0 < left → c.whole ≡ true → Still d.state d.queue h' n' next at' (left - 1) out'
        unfolding carried
        still_again o y =
            let put = rw (entry_same s q n' spoken only d et, es, en) at ep in
            rw (ex, eh, et, es, en) (still_line at' out' put o y)

    -- no line is left: what is left of the piece is held
    module _ (h' : Held) (z : cuts left h p from ≡ []) (eh : holds_after left h p from ≡ h') where
      pub all_shown : 4096 * suc (length p) ≤ length out₀ → Feeds only w p out₀ (stood (standing s q h' n) at) out
      unfolding shown state_after queue_after number_after
      all_shown o =
          let f : Filling 4096 out₀ (text_for only w p) [] at left out = rw z at i.filling in
          let a = filled_at 4096 out₀ (text_for only w p) at left out f in
          let r : standing s q h' n ≡ show_after w p =
          made (rw z at i.state) (rw z at i.queue) (sym eh ∙ i.held) (rw z at i.number) in
          let l = le-leb (4096 * suc (length p)) (length out₀) o in
          (rw (l, ← a, ← r), rw l (filled_out 4096 out₀ (text_for only w p) at left out f), filled_front 4096 out₀ (text_for only w p) at left out f)

  pub no_room : length out₀ < 4096 * suc (length p) → Feeds only w p out₀ (stood w 0) out₀
  no_room o = (rw (lt-leb (4096 * suc (length p)) (length out₀) o), rw (lt-leb (4096 * suc (length p)) (length out₀) o), in_front 0 out₀ (omega arith))
