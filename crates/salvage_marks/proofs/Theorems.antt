-- What is promised of a salvage. Above each promise stands what it says and which wrong salvage it rules out; the proofs stand in the files beside this one.
-- The words are those of specs/: Torn and Pieces say what a salvage is, Words and Damage what is said of it. Assumes nothing.
use Prim.Native.Nat.{ℕ, suc, ◌+◌, ◌*◌, ◌≤◌, ◌<◌}
use native.Mathlib.Omega.{arith}
use mathlib.Core.Path.{◌≡◌}
use mathlib.Core.Logic.{◌↔◌}
use mathlib.Core.Bool.{Bool, true, false, not}
use mathlib.Core.List.{List, [], ◌∷◌, ◌++◌}
use lib.Dec.{eqb}
use borrow.Author.Tests.{leb-true}
use lib.ListN.{length, drop}
use Rattle.rules.specs.Line.{joined}
use Rattle.record.specs.Form.{bytes_of}
use Rattle.std.specs.Prelude.{Ok}
use Rattle.record.specs.Fault.{fault_of}
use Rattle.record.specs.declared.Record.{Record}
use Rattle.tape_form.specs.Run.{tape_of, Takes, answers, found_all}
use Rattle.std.specs.Prelude.{Ok, Err}
use Rattle.rules.specs.declared.Refusal.{Refusal}
use Rattle.salvage_marks.specs.declared.Salvaged.{Salvaged}
use Rattle.salvage_marks.specs.declared.Torn.{Torn}
use Rattle.salvage_marks.specs.declared.Fed.{Fed}
use Rattle.salvage_marks.specs.Torn.{kept, dropped, found, headed, cells, total, salvaged_of, SalvagedTo}
use Rattle.salvage_marks.specs.Pieces.{at_first, last_place, written, listed, fed_fits, long_enough, fed_of, FedTo, Chain}
use Rattle.salvage_marks.specs.Words.{Bytes, Whole, Apart, cut, in_stretch, stands, kept_at, Has, byte_kept, Front, Answered, PieceAnswered}
use Rattle.salvage_marks.specs.Damage.{Gap, torn_at, saved, gaps, LosesNone}
use Rattle.salvage_marks.proofs.Marks.{both_true}
use Rattle.salvage_marks.proofs.Whole as whole
use Rattle.salvage_marks.proofs.Apart as places
use Rattle.salvage_marks.proofs.Listed as lists
use Rattle.salvage_marks.proofs.Lost as lost
use Rattle.salvage_marks.proofs.Reader as reader
use Rattle.salvage_marks.proofs.Damage as damage
use Rattle.salvage_marks.proofs.Answers as told
use Rattle.salvage_marks.proofs.Chained as chained

-- ---- Old tape, new tape, list

-- Kept records times 16 plus the listed lengths is the old tape's length.
-- Rules out: a byte that is neither kept nor listed, or both.
pub adds_up : (s : List ℕ) → 16 * length (found s) + total (dropped s) ≡ length s
adds_up s = whole.each_byte s

-- The stretches stand in order. Each has a byte and lies on the tape. Between two of them stand 16 bytes, or 32, or another multiple of 16; before the first
-- and behind the last stands a multiple of 16 bytes too, and there it may be none.
-- Rules out: a stretch listed in two parts, or twice, or out of order.
pub apart : (s : List ℕ) → Apart 0 0 (length s) (dropped s)
apart s = places.all_apart s

-- A byte of the tape stands in a listed stretch exactly if it is not kept.
-- Rules out: a stretch with a kept byte in it, and a dropped byte in none; so too a list of other places where the same bytes stand.
pub listed_exactly : (s : List ℕ) (i : ℕ) → i < length s → in_stretch (dropped s) i ≡ not (byte_kept s i)
listed_exactly s i o = lists.exactly s i o

-- The listed stretches cut out of the old tape leave the new tape, byte for byte.
-- Rules out: a new tape of other bytes than those that are not listed.
pub cut_out : (s : List ℕ) → cut 0 (dropped s) s ≡ kept s
cut_out s = places.cut_out s

-- The new tape is the kept records' bytes, one record behind another. With `listed_exactly` and `by_records`: what stands between the stretches of the old tape
-- are the kept records, whole, each at the bytes where it was.
-- Rules out: a count of records that the new tape does not hold.
pub new_tape : (s : List ℕ) → Bytes s → kept s ≡ tape_of (found s)
new_tape s b = reader.new_tape s b

-- An undamaged tape, one that the reader reads to its end, comes out the same, with an empty list.
-- Rules out: a salvage that drops a record of a good tape.
pub undamaged : (s : List ℕ) → Bytes s → (rs : List Record) → answers (suc (length rs)) s 0 ≡ found_all 0 rs → (kept s ≡ s) × (dropped s ≡ [])
undamaged s b rs e = whole.whole_same s (reader.read_whole s b rs e)

-- Salvaging the new tape changes nothing more.
-- Rules out: a new tape with a byte that belongs to no record.
pub twice : (s : List ℕ) → (kept (kept s) ≡ kept s) × (dropped (kept s) ≡ [])
twice s = whole.whole_same (kept s) (whole.new_whole s)

-- ---- Which records are kept

-- A byte is kept exactly if it belongs to a kept record.
-- Rules out: a record that is kept in part.
pub by_records : (s : List ℕ) (i : ℕ) → (byte_kept s i ≡ true) ↔ ((at : ℕ) × Has s at i)
by_records s i = (lost.kept_of_record s i, λ h. lost.record_kept s i h.0 h.1)

-- A record is kept only where it makes one: a header at byte 0, a command record anywhere.
-- Rules out: a header that is kept anywhere else.
pub kept_stands : (s : List ℕ) (at : ℕ) → kept_at s at ≡ true → stands s at ≡ true
kept_stands s at h = lost.kept_stands s at h

-- Of the records that stand on a torn tape exactly those are lost into which a kept record reaches that begins before them.
-- Rules out: a salvage that keeps the later of two records that overlap, or neither.
pub lost_exactly : (s : List ℕ) (at : ℕ) → stands s at ≡ true → (kept_at s at ≡ false) ↔ ((before : ℕ) × (before < at) × Has s before at)
lost_exactly s at h = (lost.lost_under s at h, λ x. lost.under_lost s at x.0 x.1 x.2)

-- A record right behind a kept one is kept. With `lost_exactly`: records that stand one behind another are all kept exactly if no kept record that begins
-- before the first of them reaches into it. So damage behind a kept record loses none of the records behind it exactly if no kept record that begins in the
-- damage reaches past its end.
-- Rules out: a salvage that skips a record.
pub next_kept : (s : List ℕ) (at : ℕ) → kept_at s at ≡ true → stands s (at + 16) ≡ true → kept_at s (at + 16) ≡ true
next_kept s at k h = lost.next_kept s at k h

-- ---- The new tape and the reader

-- Where a header was kept, the new tape is a tape: the reader finds the kept records on it, each in turn, and then the end.
-- Rules out: a kept header that the reader refuses, and one kept anywhere else.
pub reads_back : (s : List ℕ) → Bytes s → headed s ≡ true → answers (suc (length (found s))) (kept s) 0 ≡ found_all 0 (found s)
reads_back s b e = reader.reads_back s b e

-- Where none was kept, the new tape is a tape behind any header: the reader finds that header, then the kept records, each in turn, and then the end.
pub reads_under : (s : List ℕ) → Bytes s → headed s ≡ false → (h : Record) → fault_of 0 h ≡ Ok tt
    → answers (suc (suc (length (found s)))) (bytes_of h ++ kept s) 0 ≡ found_all 0 (h ∷ found s)
reads_under s b e h f = reader.reads_under s b e h f

-- The new tape begins with a header exactly where the salvage says so.
-- Rules out: a header on a new tape that is said to have none.
pub header_kept : (s : List ℕ) → headed (kept s) ≡ headed s
header_kept s = reader.header_kept s

-- ---- Damage that loses no record: what the new tape and the list are then (`next_kept` says exactly which damage it is)

-- Records that the writer takes one behind another are whole: every byte of them is kept. From byte 0 on the first of them is a header; from any other place
-- on all are command records.
pub records_whole : (n at : ℕ) (rs : List Record) → Takes n at rs → Whole (eqb at 0) (tape_of rs)
records_whole n at rs t = reader.tape_whole n at rs t

-- The torn tape begins with records, a; then come gaps, each with records behind it; then its end. If no command record begins in junk or in the end, all the
-- records are kept, and the list is the junk and the end, and nothing else.
-- Rules out: a salvage that misses a record behind damage.
pub none_lost : (a : List ℕ) (gs : List Gap) (end : List ℕ) → 0 < length a → Whole true a → LosesNone gs end
    → (kept (a ++ torn_at gs end) ≡ a ++ saved gs) × (dropped (a ++ torn_at gs end) ≡ gaps (length a) gs end)
none_lost a gs end o w n = (damage.none_lost a gs end o w n, damage.all_listed a gs end o w n)

-- The same of a torn tape that begins with a gap: it begins in the middle, or with junk, or its header is spoilt or cut out. No header stands at its byte 0.
-- Rules out: a salvage that wants a header, or a record at byte 0.
pub none_lost_headless : (gs : List Gap) (end : List ℕ) → headed (torn_at gs end) ≡ false → LosesNone gs end
    → (kept (torn_at gs end) ≡ saved gs) × (dropped (torn_at gs end) ≡ gaps 0 gs end)
none_lost_headless gs end h n = (damage.front_kept gs end n h, damage.front_listed gs end n h)

-- A tape that begins with command records has no header at byte 0: so where the first gap has no junk, `none_lost_headless` asks nothing more.
pub commands_first : (a r : List ℕ) → 0 < length a → Whole false a → headed (a ++ r) ≡ false
commands_first a r o w = reader.commands_first a r o w

-- Fewer than 16 bytes behind the last record are no record: a tape that was cut off anywhere loses only the record that was cut.
pub cut_short : (x : List ℕ) → length x ≤ 15 → LosesNone [] x
cut_short x o = damage.short_clear x o

-- ---- Room

-- Refused, for want of room, exactly if the records or the list do not fit the buffers.
-- Rules out: a salvage refused that would fit, and one that is not refused and does not.
pub room_exactly : (s : List ℕ) (n m : ℕ) → Answered s n m (salvaged_of s n m)
room_exactly s n m = told.room_exactly s n m

-- Refused: both buffers are as they were.
-- Rules out: a salvage that is refused after it wrote something.
pub refused_untouched : (s out list out' list' : List ℕ) (e : Refusal) → SalvagedTo s out list (Err e) out' list' → (out' ≡ out) × (list' ≡ list)
refused_untouched s out list out' list' e f = told.salvage_refused s out list out' list' e f

-- Not refused: the new tape stands at the front of the one buffer, 16 bytes for each record that is counted, and the list at the front of the other, two numbers
-- for each stretch; what stands behind them is as it was.
-- Rules out: counts that are not those of what was written.
pub accepted_written : (s out list out' list' : List ℕ) (r : Salvaged) → SalvagedTo s out list (Ok r) out' list'
    → Front (16 * r.records) (kept s) out out' × Front (2 * r.stretches) (cells (dropped s)) list list'
accepted_written s out list out' list' r f = told.salvage_written s out list out' list' r f

-- ---- In pieces

-- A program that feeds a tape piece by piece, whatever the pieces, writes the new tape, lists the dropped stretches, and knows whether a header was kept.
-- Rules out: a record lost or a stretch split where two pieces meet.
pub in_pieces : (ps : List (List ℕ)) {w c : List ℕ} {b : Bool} → Chain at_first [] ps w c b
    → (w ≡ kept (joined ps)) × (c ≡ cells (dropped (joined ps))) × (b ≡ headed (joined ps))
unfolding kept dropped
in_pieces ps x = chained.chain_whole x (omega arith) (omega arith)

-- Refused, for want of room, exactly if the piece's end cannot be said in 64 bits or what is to be written and listed does not fit the buffers.
-- Rules out: a piece that is refused for want of room that it does not need.
pub piece_room_exactly : (t : Torn) (buf : List ℕ) (n m : ℕ) → PieceAnswered t buf n m (fed_of t buf n m)
piece_room_exactly t buf n m = told.piece_room t buf n m

-- Refused: both buffers are as they were.
-- Rules out: a piece that is refused after something of it was written.
pub piece_refused_untouched : (t : Torn) (buf out list out' list' : List ℕ) (e : Refusal) → FedTo t buf out list (Err e) out' list'
    → (out' ≡ out) × (list' ≡ list)
piece_refused_untouched t buf out list out' list' e f = told.piece_refused t buf out list out' list' e f

-- Not refused: what is kept of the piece stands at the front of the one buffer and what is listed at the front of the other, as many bytes and numbers as are
-- counted; what stands behind them is as it was.
pub piece_accepted_written : (t : Torn) (buf out list out' list' : List ℕ) (r : Fed) → FedTo t buf out list (Ok r) out' list'
    → Front r.kept (written t buf) out out' × Front r.cells (cells (listed t buf)) list list'
piece_accepted_written t buf out list out' list' r f = told.piece_written t buf out list out' list' r f

-- Not refused: fewer than 16 bytes are left for the next piece. So a buffer of fixed size serves a tape of any length.
-- Rules out: a salvage that waits for more bytes than a record has.
pub piece_held_few : (t : Torn) (buf out list out' list' : List ℕ) (r : Fed) → FedTo t buf out list (Ok r) out' list'
    → (r.done ≤ length buf) × (length (drop r.done buf) ≤ 15)
piece_held_few t buf out list out' list' r f = told.piece_held t buf out list out' list' r f

-- No piece is refused whose end can be said in 64 bits, over a buffer of as many bytes and one of a number for each whole 8 of them.
pub piece_fits : (t : Torn) (buf : List ℕ) (n m : ℕ) → t.place + length buf ≤ last_place → length buf ≤ n → length buf < 8 * m + 8 → fed_fits t buf n m ≡ true
piece_fits t buf n m p a b = chained.enough t buf n m p a b

-- Buffers that are long enough by the rule of thumb are: no such piece is refused for want of room.
-- Rules out: a rule of thumb that is too generous.
pub never_short : (t : Torn) (buf : List ℕ) (n m : ℕ) → t.place + length buf ≤ last_place → long_enough (length buf) n m ≡ true → fed_fits t buf n m ≡ true
never_short t buf n m p e = let h = both_true e in piece_fits t buf n m p (leb-true _ n h.0) (omega (arith, leb-true _ m h.1))
