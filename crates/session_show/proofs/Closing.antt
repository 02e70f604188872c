-- The end of show's input: no line has begun, or the one that has begun is the last. Assumes nothing.
use Prim.Native.Nat.{ℕ, ◌+◌, ◌<◌, ◌≤◌}
use native.Mathlib.Omega.{arith}
use mathlib.Core.Bool.{Bool, true, false, cond}
use mathlib.Core.Path.{◌≡◌, refl}
use mathlib.Core.List.{List, [], append-nil}
use borrow.Author.Tests.{leb-true}
use lib.Dec.{leb}
use lib.ListN.{length}
use lib.Seq.{sets, length-sets}
use Rattle.text.specs.declared.Spoken.{Spoken}
use Rattle.text.specs.Commands.{command_of}
use Rattle.text.specs.Lines.{held_bytes}
use Rattle.decimal.specs.Buffer.{InFront}
use Rattle.decimal.proofs.Stores.{in_front}
use Rattle.session.specs.CarriedOut.{following}
use Rattle.session.proofs.CarryingOut.{no_byte, some_byte}
use Rattle.session_walk_text.specs.Walk.{number_after}
use Rattle.show_text.specs.declared.Showing.{Showing}
use Rattle.show_text.specs.Show.{line_text, wanted, shown, last_text, finished, finished_out, lines_seen}
use Rattle.session_show.specs.Carried.{Puts}
use Rattle.session_show.proofs.Carrying.{nothing_put}

-- what was put at the front stands in front
put_front : (out text : List ℕ) (r : ℕ) (left : List ℕ) → Puts out 0 text r left → InFront r left
put_front out text r left p = in_front r left (go (leb (0 + 4096) (length out)) refl p.0 p.1)
  where
    go : (b : Bool) → leb (0 + 4096) (length out) ≡ b → r ≡ cond b (0 + length text) 0 → left ≡ cond b (sets out 0 text) out → r ≤ length left
    go true e er el = let o = leb-true (0 + 4096) (length out) e in rw (el, length-sets) (omega (arith, o, p.2))
    go false e er el = omega (arith, er)

module _ (only : ℕ) (w : Showing) (out : List ℕ) where
  pub nothing_left : w.held.count ≡ 0 → (0 ≡ finished only w out) × (out ≡ finished_out only w out) × InFront 0 out
  unfolding last_text shown
  nothing_left z =
      let e = no_byte w.held.count w.held.bytes z in
      let p = nothing_put out 0 in
      (rw e p.0, rw e p.1, in_front 0 out (omega arith))

  module _ (n' at' : ℕ) (spoken : Spoken) (out' text : List ℕ) (en : n' ≡ following w.n) (es : spoken ≡ command_of (held_bytes w.held))
      (ep : Puts out 0 text at' out') (ea : text ≡ cond (wanted only n') (line_text w.state w.queue n' spoken) []) where
    pub one_left : (w.held.count ≡ 0 → ⊥) → 0 < length w.held.bytes
        → (at' ≡ finished only w out) × (out' ≡ finished_out only w out) × InFront at' out'
    unfolding last_text shown
    one_left z o =
        let e = some_byte w.held.count w.held.bytes z o in
        (rw (e, append-nil, ← en, ← es, ← ea) ep.0, rw (e, append-nil, ← en, ← es, ← ea) ep.1, put_front out text at' out' ep)

-- how many lines there were
pub none_begun : (w : Showing) → w.held.count ≡ 0 → w.n ≡ lines_seen w
unfolding lines_seen number_after
none_begun w z = rw (no_byte w.held.count w.held.bytes z)

pub one_begun : (w : Showing) (n : ℕ) → n ≡ following w.n → (w.held.count ≡ 0 → ⊥) → 0 < length w.held.bytes → n ≡ lines_seen w
unfolding lines_seen number_after
one_begun w n e z o = rw (some_byte w.held.count w.held.bytes z o) e
