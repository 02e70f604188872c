-- The salvage of a tape that comes in pieces: what is decided of the bytes seen so far, and what waits for the next
-- piece. Assumes nothing.
use Rattle.std.specs.Prelude.{ℕ, zero, suc, ◌+◌, ◌-◌, ◌/◌, ◌≡◌, List, [], ◌∷◌, ◌++◌, Bool, true, false, cond, ◌&&◌, ◌||◌, length, take, drop, min, leb, ltb, eqb, Option, Some, None, Result, Ok, Err}
use Rattle.std.proofs.lemmas.List.Edits.{sets}
use Rattle.rules.specs.declared.Refusal.{Refusal}
use Rattle.rules.specs.declared.Refusal.TheVariants.{Room}
use Rattle.salvage_marks.specs.Torn.{makes, pick, closed, headed, cells}
use Rattle.salvage_marks.specs.declared.Stretch.{Stretch}
use Rattle.salvage_marks.specs.declared.Torn.{Torn}
use Rattle.salvage_marks.specs.declared.Fed.{Fed}

-- The marks as far as they are decided: where fewer than 16 bytes are left, the next piece is wanted.
unfoldable pub ahead : Bool → ℕ → List ℕ → List Bool
ahead first k [] = []
ahead first (suc k) (b ∷ l) = true ∷ ahead false k l
ahead first zero (b ∷ l) =
    cond (leb 16 (length (b ∷ l)))
    (cond (makes first (b ∷ l)) (true ∷ ahead false 15 l) (false ∷ ahead false zero l)) []

-- the stretches that have ended, from the place `at` on, where every byte since `from` was dropped
unfoldable pub ended : ℕ → ℕ → List Bool → List Stretch
ended from at [] = []
ended from at (true ∷ ms) = closed from at (ended (suc at) (suc at) ms)
ended from at (false ∷ ms) = ended from (suc at) ms

-- where the stretch begins that has not ended; where none is open, the place behind the marks
unfoldable pub begun : ℕ → ℕ → List Bool → ℕ
begun from at [] = from
begun from at (true ∷ ms) = begun (suc at) (suc at) ms
begun from at (false ∷ ms) = begun from (suc at) ms

-- before the first byte
abbrev pub at_first : Torn
at_first = record { place = 0; from = 0; headed = false }

-- the last place that a number of 64 bits can say; a tape may end there, and not behind it
abbrev pub last_place : ℕ
last_place = 18446744073709551615

-- where the open stretch begins; where a caller made up one that begins past the place, it begins at the place
abbrev pub opened : Torn → ℕ
opened t = min t.from t.place

-- the marks of the held bytes and of the piece behind them, together `buf`, as far as they are decided
abbrev pub decided : Torn → List ℕ → List Bool
decided t buf = ahead (eqb t.place 0) zero buf

-- the bytes of buf that are written to the new tape
unfoldable pub written : Torn → List ℕ → List ℕ
written t buf = pick (decided t buf) buf

-- the stretches that ended in buf
unfoldable pub listed : Torn → List ℕ → List Stretch
listed t buf = ended (opened t) t.place (decided t buf)

-- The salvage behind the decided bytes. A header is kept where it stands at byte 0, in the first piece. Once it is said
-- that one was kept, it stays said, also where a caller made that up.
unfoldable pub after : Torn → List ℕ → Torn
after t buf =
    record {
      place = t.place + length (decided t buf);
      from = begun (opened t) t.place (decided t buf);
      headed = t.headed || (eqb t.place 0 && headed buf);
    }

-- the bytes of buf that are not decided: they are held, and stand in front of the next piece
unfoldable pub held : Torn → List ℕ → List ℕ
held t buf = drop (length (decided t buf)) buf

-- it fits: buf does not end behind the last place, and buffers of n bytes and m numbers hold what is written and listed
unfoldable pub fed_fits : Torn → List ℕ → ℕ → ℕ → Bool
fed_fits t buf n m =
    leb (t.place + length buf) last_place && leb (length (written t buf)) n && leb (length (cells (listed t buf))) m

-- Buffers of n bytes and m numbers are long enough for any so many bytes: a byte for each, and a number for each whole
-- 8 of them. (Then nothing has to be measured.)
abbrev pub long_enough : ℕ → ℕ → ℕ → Bool
long_enough many n m = leb many n && leb (many / 8) m

-- A piece answers the salvage behind it and its counts; or, where it does not fit, it is refused, for want of room.
unfoldable pub fed_of : Torn → List ℕ → ℕ → ℕ → Result Fed Refusal
fed_of t buf n m =
    cond (fed_fits t buf n m)
    (Ok (record {
      torn = after t buf;
      done = length (decided t buf);
      kept = length (written t buf);
      cells = length (cells (listed t buf));
    }))
    (Err Room)

-- The contract of a piece: its answer; and where it fits, what is written stands at the front of one buffer and what
-- is listed at the front of the other, else both are as they were.
abbrev pub FedTo : Torn → List ℕ → List ℕ → List ℕ → Result Fed Refusal → List ℕ → List ℕ → Type 0
FedTo t buf out list r out' list' =
    (r ≡ fed_of t buf (length out) (length list))
    × (out' ≡ cond (fed_fits t buf (length out) (length list)) (sets out 0 (written t buf)) out)
    × (list' ≡ cond (fed_fits t buf (length out) (length list)) (sets list 0 (cells (listed t buf))) list)

-- where a tape ends, so many bytes behind a place: a sum that passes the last place counts as it
abbrev pub ends_at : ℕ → ℕ → ℕ
ends_at place n = min (place + n) last_place

-- the stretch from a place up to another; an empty one is none
abbrev pub stretch_of : ℕ → ℕ → Option Stretch
stretch_of from at = cond (ltb from at) (Some (record { first = from; size = at - from })) None

-- The last stretch of a tape that ends with n bytes undecided. These are dropped, so it goes from where the open one
-- begins up to the tape's end. The size is 0 where there is no last stretch.
unfoldable pub last_of : Torn → ℕ → Stretch
last_of t n = record { first = opened t; size = ends_at t.place n - opened t }

-- a buffer has bytes from `done` up to `n`, perhaps none
unfoldable pub movable : List ℕ → ℕ → ℕ → Bool
movable s done n = leb done n && leb n (length s)

-- The contract of moving the held bytes: those from `done` up to `n` stand at the buffer's front, and how many they are
-- is the answer; where the buffer has no such bytes, it is as it was, and the answer is 0.
abbrev pub MovedTo : List ℕ → ℕ → ℕ → ℕ → List ℕ → Type 0
MovedTo s done n r s' =
    (r ≡ cond (movable s done n) (n - done) 0)
    × (s' ≡ cond (movable s done n) (sets s 0 (take (n - done) (drop done s))) s)

-- A program that feeds a tape piece by piece, from a salvage t with some bytes held, to its end. All that it writes,
-- all that it lists, and whether a header was kept. Each answer is one that the contract allows, and none refuses.
pub data Chain : Torn → List ℕ → List (List ℕ) → List ℕ → List ℕ → Bool → Type 0 where
  end : {t : Torn} {h : List ℕ} (x : Stretch) → x ≡ last_of t (length h)
      → Chain t h [] [] (cells (closed x.first (x.first + x.size) [])) t.headed
  feed : {t : Torn} {h p : List ℕ} {ps : List (List ℕ)} {w c : List ℕ} {b : Bool} (r : Fed)
      (out list out' list' : List ℕ) → FedTo t (h ++ p) out list (Ok r) out' list'
      → Chain r.torn (drop r.done (h ++ p)) ps w c b
      → Chain t h (p ∷ ps) (take r.kept out' ++ w) (take r.cells list' ++ c) b
