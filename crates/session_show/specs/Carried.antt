-- A line carried out by both models, and what is put for it: the code's own.
use Rattle.std.specs.Prelude.{ℕ, ◌+◌, ◌≤◌, cond, ◌≡◌, List, [], ◌++◌}
use Rattle.kernel_state.specs.declared.State.{State}
use Rattle.queue_chip.specs.declared.Queue.{Queue}
use Rattle.text.specs.declared.Spoken.{Spoken}
use Rattle.text.specs.Printed.{walk_line}
use Rattle.decimal.specs.Buffer.{contents_after, place_after}
use Rattle.show_text.specs.Block.{show_room}
use Rattle.show_text.specs.Show.{answer_to, state_behind, queue_behind, row_for, block_of, wanted}
use Rattle.session_show.specs.declared.Done.{Done}

-- The row of a line, the state and the queue behind it, and whether its answer shows an exception.
unfoldable pub carried : State → Queue → ℕ → Spoken → Done
carried s q n l =
    record {
      row = row_for s n l;
      state = state_behind s l;
      queue = queue_behind s q l;
      exception = (answer_to s l).exception;
    }

-- What is put for it: its entry, if it is one that is asked for.
unfoldable pub wanted_text : ℕ → Done → List ℕ
wanted_text only d =
    cond (wanted only d.row.n) (walk_line d.row ++ block_of d.state d.queue d.exception) []

-- A text is put, where there is room for an entry; it is no longer than one.
abbrev pub Puts : List ℕ → ℕ → List ℕ → ℕ → List ℕ → Type 0
Puts out at text r left =
    (r ≡ place_after show_room out at text) × (left ≡ contents_after show_room out at text) × (r ≤ at + show_room)
