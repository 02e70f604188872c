-- What came of a read or a write, as far as a contract can say it. Which bytes are read and written no contract can
-- say.
use Rattle.std.specs.Prelude.{ℕ, ◌+◌, ◌≤◌, Bool, true, false, cond, ◌≡◌, ◌≢◌, List, ◌⊎◌, length, take}
use Rattle.programs_flow.specs.declared.State.{State}
use Rattle.programs_flow.specs.declared.State.TheVariants.{GoesOn, Ended, ReadFailed, WriteFailed}
use Rattle.programs_flow.specs.declared.Went.{Went}

-- Nothing was read or written yet.
abbrev pub nothing_yet : Went
nothing_yet = record { state = GoesOn; count = 0; sent = 0 }

-- Nothing failed yet, and no read gave nothing.
abbrev pub goes_on : State → Bool
goes_on GoesOn = true
goes_on Ended = false
goes_on ReadFailed = false
goes_on WriteFailed = false

-- A read gave nothing, and nothing failed: all was read.
abbrev pub has_ended : State → Bool
has_ended GoesOn = false
has_ended Ended = true
has_ended ReadFailed = false
has_ended WriteFailed = false

-- A read or a write failed.
abbrev pub has_failed : State → Bool
has_failed GoesOn = false
has_failed Ended = false
has_failed ReadFailed = true
has_failed WriteFailed = true

-- What a program answers: 0, or 3 where a read or a write failed.
abbrev pub status_of : State → ℕ
status_of state = cond (has_failed state) 3 0

-- A call brought so many bytes, at the front of a buffer: at least one where the work goes on, else none.
abbrev pub Brought : List ℕ → ℕ → State → Type 0
Brought piece count state =
    (count ≤ length piece) × (count ≡ length (take count piece))
    × (((state ≡ GoesOn) × (1 ≤ count)) ⊎ ((count ≡ 0) × (state ≢ GoesOn)))

-- A read, by which w became r: what it brought stands in the buffer; the work goes on, the input has ended, or the read
-- failed. How many bytes were taken is kept.
abbrev pub Came : Went → Went → List ℕ → Type 0
Came w r piece = Brought piece r.count r.state × (r.state ≢ WriteFailed) × (r.sent ≡ w.sent)

-- So many bytes more were taken than before, and the work stands so; or a write failed.
abbrev pub Took : ℕ → State → Went → Went → Type 0
Took n state w r = ((r.state ≡ state) × (r.sent ≡ w.sent + n)) ⊎ (r.state ≡ WriteFailed)

-- A write of so many bytes, by which w became r: all were taken, and the work stands as it stood; or it failed. What
-- the last read brought is kept.
abbrev pub Wrote : ℕ → Went → Went → Type 0
Wrote n w r = (r.count ≡ w.count) × Took n w.state w r

-- What was to be read is not there, or cannot be used.
abbrev pub unread : Went → Went
unread w = record { state = ReadFailed; count = 0; sent = w.sent }

-- What was to be written or kept is not.
abbrev pub unwritten : Went → Went
unwritten w = record { state = WriteFailed; count = w.count; sent = w.sent }

-- The work stands as it stood where something was done; else it has failed.
unfoldable pub where_done : Bool → Went → Went
where_done done w = cond done w (unwritten w)
