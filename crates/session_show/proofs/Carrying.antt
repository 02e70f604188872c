-- A line carried out by both models, and what is put for it, are what the definitions say. Assumes nothing.
use Prim.Native.Nat.{ℕ, ◌+◌}
use native.Mathlib.Omega.{arith}
use mathlib.Core.Bool.{Bool, true, false, cond, not, ◌&&◌, ◌||◌, true≢false}
use mathlib.Core.Path.{◌≡◌, refl, sym}
use mathlib.Core.List.{List, []}
use borrow.Author.Tests.{eq-eqb, ne_eqb}
use lib.Dec.{eqb, leb}
use lib.ListN.{length}
use Rattle.rules.specs.Machine.{Command}
use Rattle.kernel.specs.declared.command.Answer.{Answer}
use Rattle.kernel.specs.Public.{answer_of, running_of}
use Rattle.kernel_state.specs.declared.State.{State}
use Rattle.queue_chip.specs.declared.Queue.{Queue}
use Rattle.queue_beside.specs.declared.Moved.{Moved}
use Rattle.queue_beside.specs.Beside.{moved_of}
use Rattle.text.specs.declared.Spoken.{Spoken}
use Rattle.text.specs.declared.Row.{Row}
use Rattle.session.specs.CarriedOut.{asked, row_of}
use Rattle.show_text.specs.Block.{show_room}
use Rattle.show_text.specs.Show.{answer_to, state_behind, queue_behind, plain, row_for, line_text, wanted}
use Rattle.session_show.specs.declared.Done.{Done}
use Rattle.session_show.specs.Carried.{carried, wanted_text, Puts}

module _ (s : State) (q : Queue) (n : ℕ) (l : Spoken) where
  pub says_none : (row : Row) → (l.code ≡ 0 → ⊥) → row ≡ row_of n l (answer_of l.code (running_of s.kernel) 0) s.kernel.clock
      → record { row = row; state = s; queue = q; exception = false } ≡ carried s q n l
  unfolding carried state_behind queue_behind answer_to row_for
  says_none row z e = rw (e, ne_eqb l.code 0 z)

  module _ (m : Moved) (row : Row) (c : Command) (a : Answer) (ec : c ≡ asked l) (em : m ≡ moved_of s q c) (ea : a ≡ plain m.answer)
      (er : row ≡ row_of n l a m.next.kernel.clock) where
    pub says_one : l.code ≡ 0 → record { row = row; state = m.next; queue = m.queue; exception = m.answer.exception } ≡ carried s q n l
    unfolding carried moved_of state_behind queue_behind answer_to row_for
    says_one z = rw (er, ea, em, ec, eq-eqb l.code 0 z)

  -- what is put for a line that was carried out
  pub entry_same : (only : ℕ) (d : Done) → d ≡ carried s q n l → wanted_text only d ≡ cond (wanted only n) (line_text s q n l) []
  unfolding carried wanted_text line_text row_for
  entry_same only d e = rw e

-- ---- whether a line is asked for

pub unwanted : (only n : ℕ) → not (eqb only 0) && not (eqb n only) ≡ true → wanted only n ≡ false
unwanted only n = go (eqb only 0) (eqb n only)
  where
    go : (a b : Bool) → not a && not b ≡ true → a || b ≡ false
    go true b e = absurd (true≢false (sym e))
    go false true e = absurd (true≢false (sym e))
    go false false e = refl

pub is_wanted : (only n : ℕ) → not (eqb only 0) && not (eqb n only) ≡ false → wanted only n ≡ true
is_wanted only n = go (eqb only 0) (eqb n only)
  where
    go : (a b : Bool) → not a && not b ≡ false → a || b ≡ true
    go true b e = refl
    go false true e = refl
    go false false e = absurd (true≢false e)

-- ---- nothing is put

module _ (out : List ℕ) (at : ℕ) where
  put_none : (b : Bool) → (at ≡ cond b (at + 0) at) × (out ≡ cond b out out)
  put_none true = (omega arith, refl)
  put_none false = (refl, refl)

  pub nothing_put : Puts out at [] at out
  nothing_put = let w = put_none (leb (at + show_room) (length out)) in (w.0, w.1, omega arith)

  pub skipped : (text : List ℕ) (b : Bool) → b ≡ false → Puts out at (cond b text []) at out
  skipped text b e = rw e nothing_put

  pub put_so : (text : List ℕ) (b : Bool) (r : ℕ) (left : List ℕ) → b ≡ true → Puts out at text r left → Puts out at (cond b text []) r left
  put_so text b r left e p = rw e p
