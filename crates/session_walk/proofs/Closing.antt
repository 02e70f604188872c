-- The end of walk's input: no line has begun, or the one that has begun is the last. Assumes nothing.
use Prim.Native.Nat.{ℕ, ◌+◌, ◌<◌}
use native.Mathlib.Omega.{arith}
use mathlib.Core.Bool.{Bool, true, false, cond}
use mathlib.Core.Path.{◌≡◌, refl}
use mathlib.Core.List.{List, append-nil}
use lib.Dec.{leb}
use lib.ListN.{length}
use Rattle.text.specs.declared.Spoken.{Spoken}
use Rattle.text.specs.declared.Row.{Row}
use Rattle.decimal.specs.Buffer.{contents_after, place_after, InFront}
use Rattle.text.specs.Commands.{command_of}
use Rattle.text.specs.Lines.{held_bytes}
use Rattle.text.specs.Printed.{walk_line}
use Rattle.session_walk_text.specs.declared.Walk.{Walk}
use Rattle.session.specs.CarriedOut.{following, row_for}
use Rattle.session_walk_text.specs.Walk.{walked, last_text, finished, finished_out}
use Rattle.text.proofs.Bounds.{walk_short}
use Rattle.decimal.proofs.Stores.{in_front, put_in_front}
use Rattle.session.proofs.CarryingOut.{no_byte, some_byte}

same_place : (b : Bool) → 0 ≡ cond b (0 + 0) 0
same_place true = refl
same_place false = refl

same_contents : (b : Bool) (out : List ℕ) → out ≡ cond b out out
same_contents true out = refl
same_contents false out = refl

module _ (w : Walk) (out : List ℕ) where
  pub nothing_left : w.held.count ≡ 0 → (0 ≡ finished w out) × (out ≡ finished_out w out) × InFront 0 out
  unfolding last_text walked
  nothing_left z =
      let e = no_byte w.held.count w.held.bytes z in
      (rw e (same_place (leb (0 + 128) (length out))), rw e (same_contents (leb (0 + 128) (length out)) out), in_front 0 out (omega arith))

  module _ (n' at' : ℕ) (spoken : Spoken) (row : Row) (out' : List ℕ)
      (en : n' ≡ following w.n) (es : spoken ≡ command_of (held_bytes w.held)) (et : row ≡ row_for w.kernel n' spoken)
      (ea : at' ≡ place_after 128 out 0 (walk_line row)) (eo : out' ≡ contents_after 128 out 0 (walk_line row)) where
    pub one_left : (w.held.count ≡ 0 → ⊥) → 0 < length w.held.bytes → (at' ≡ finished w out) × (out' ≡ finished_out w out) × InFront at' out'
    unfolding last_text walked
    one_left z o =
        let e = some_byte w.held.count w.held.bytes z o in
        (rw (e, append-nil, ea, et, es, en), rw (e, append-nil, eo, et, es, en), put_in_front 128 (walk_line row) out out' at' ea eo (walk_short row))
