-- The salvage of a torn tape, one with bytes missing, spoilt or put in: which of its bytes are kept, the new tape that
-- they make, and the stretches that are dropped. Assumes nothing.
use Rattle.std.specs.Prelude.{ℕ, zero, suc, ◌+◌, ◌-◌, ◌≡◌, List, [], ◌∷◌, Bool, true, false, cond, ◌&&◌, ◌||◌, length, take, leb, ltb, Result, Ok, Err}
use Rattle.std.proofs.lemmas.List.Edits.{sets}
use Rattle.record.specs.Form.{is_header, is_command, record_of}
use Rattle.record.specs.declared.Record.{Record}
use Rattle.rules.specs.declared.Refusal.{Refusal}
use Rattle.rules.specs.declared.Refusal.TheVariants.{Room}
use Rattle.salvage_marks.specs.declared.Stretch.{Stretch}
use Rattle.salvage_marks.specs.declared.Salvaged.{Salvaged}

-- 16 bytes are a record here: a command record anywhere, a header at the tape's first byte only
abbrev pub is_record : Bool → List ℕ → Bool
is_record first p = is_command p || (first && is_header p)

-- the next 16 bytes of what is left of a tape make a record; fewer than 16 make none
unfoldable pub makes : Bool → List ℕ → Bool
makes first l = leb 16 (length l) && is_record first (take 16 l)

-- For each byte of what is left of a tape: is it kept? k bytes more belong to a record that is being kept. Behind it:
-- if the next 16 bytes make a record, keep it and go on behind it, otherwise drop one byte and look again.
unfoldable pub marks : Bool → ℕ → List ℕ → List Bool
marks first k [] = []
marks first (suc k) (b ∷ l) = true ∷ marks false k l
marks first zero (b ∷ l) = cond (makes first (b ∷ l)) (true ∷ marks false 15 l) (false ∷ marks false zero l)

-- the bytes that are marked
unfoldable pub pick : List Bool → List ℕ → List ℕ
pick [] l = []
pick (m ∷ ms) [] = []
pick (m ∷ ms) (b ∷ l) = cond m (b ∷ pick ms l) (pick ms l)

-- in front of other stretches the one from a place up to another; an empty one is none
unfoldable pub closed : ℕ → ℕ → List Stretch → List Stretch
closed from at xs = cond (ltb from at) (record { first = from; size = at - from } ∷ xs) xs

-- the stretches of bytes that are not marked, from the place `at` on, where every byte since `from` was dropped: each
-- ends at a kept byte or at the tape's end
unfoldable pub stretches : ℕ → ℕ → List Bool → List Stretch
stretches from at [] = closed from at []
stretches from at (true ∷ ms) = closed from at (stretches (suc at) (suc at) ms)
stretches from at (false ∷ ms) = stretches from (suc at) ms

-- the kept bytes of what is left of a tape
abbrev pub kept_on : Bool → List ℕ → List ℕ
kept_on first l = pick (marks first zero l) l

-- the dropped stretches of what is left of a tape, from the place `at` on, where every byte since `from` was dropped
abbrev pub dropped_on : Bool → ℕ → ℕ → List ℕ → List Stretch
dropped_on first from at l = stretches from at (marks first zero l)

-- The new tape: the kept bytes of the old one.
unfoldable pub kept : List ℕ → List ℕ
kept s = kept_on true s

-- The list: every dropped stretch of the old tape.
unfoldable pub dropped : List ℕ → List Stretch
dropped s = dropped_on true 0 0 s

-- the kept records of what is left of a tape, where k bytes more belong to one that was counted before
unfoldable pub found_on : Bool → ℕ → List ℕ → List Record
found_on first k [] = []
found_on first (suc k) (b ∷ l) = found_on false k l
found_on first zero (b ∷ l) =
    cond (makes first (b ∷ l)) (record_of (take 16 (b ∷ l)) ∷ found_on false 15 l) (found_on false zero l)

-- The kept records.
unfoldable pub found : List ℕ → List Record
found s = found_on true zero s

-- A header is kept: it stands at byte 0.
unfoldable pub headed : List ℕ → Bool
headed s = leb 16 (length s) && is_header (take 16 s)

-- the list as numbers: first byte and length, stretch by stretch
unfoldable pub cells : List Stretch → List ℕ
cells [] = []
cells (x ∷ xs) = x.first ∷ x.size ∷ cells xs

-- the listed lengths, summed
unfoldable pub total : List Stretch → ℕ
total [] = 0
total (x ∷ xs) = x.size + total xs

-- the kept records and the list fit buffers of n bytes and of m numbers
unfoldable pub fits : List ℕ → ℕ → ℕ → Bool
fits s n m = leb (length (kept s)) n && leb (length (cells (dropped s))) m

-- A salvage answers its counts; or it is refused, for want of room, where the buffers do not hold all of it.
unfoldable pub salvaged_of : List ℕ → ℕ → ℕ → Result Salvaged Refusal
salvaged_of s n m =
    cond (fits s n m)
    (Ok (record { records = length (found s); stretches = length (dropped s); headed = headed s }))
    (Err Room)

-- The contract of a salvage into two buffers: its answer; and where all fits, the new tape stands at the front of the
-- one and the list at the front of the other, else both are as they were.
abbrev pub SalvagedTo : List ℕ → List ℕ → List ℕ → Result Salvaged Refusal → List ℕ → List ℕ → Type 0
SalvagedTo s out list r out' list' =
    (r ≡ salvaged_of s (length out) (length list))
    × (out' ≡ cond (fits s (length out) (length list)) (sets out 0 (kept s)) out)
    × (list' ≡ cond (fits s (length out) (length list)) (sets list 0 (cells (dropped s))) list)
