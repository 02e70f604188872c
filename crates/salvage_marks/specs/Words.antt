-- The words in which a salvage's promises are said (proofs/Theorems), beside those of Torn and Pieces. Assumes nothing.
use Rattle.std.specs.Prelude.{ℕ, zero, suc, ◌+◌, ◌-◌, ◌*◌, ◌%◌, ◌≤◌, ◌<◌, ◌≡◌, List, [], ◌∷◌, ◌++◌, Bool, true, false, cond, ◌&&◌, ◌||◌, length, take, drop, get_or, replicate, eqb, leb, ltb, Result, Ok, Err}
use Rattle.rules.specs.declared.Refusal.{Refusal}
use Rattle.rules.specs.declared.Refusal.TheVariants.{Room}
use Rattle.salvage_marks.specs.Torn.{makes, marks, found, dropped, headed}
use Rattle.salvage_marks.specs.Pieces.{last_place, decided, written, listed, after}
use Rattle.salvage_marks.specs.declared.Stretch.{Stretch}
use Rattle.salvage_marks.specs.declared.Salvaged.{Salvaged}
use Rattle.salvage_marks.specs.declared.Torn.{Torn}
use Rattle.salvage_marks.specs.declared.Fed.{Fed}

-- every element is a byte
abbrev pub Bytes : List ℕ → Type 0
Bytes l = (i : ℕ) → get_or l i 0 < 256

-- Every byte is kept: these bytes are records, one behind another. `first` says whether they begin at a tape's byte 0,
-- where a header may stand.
abbrev pub Whole : Bool → List ℕ → Type 0
Whole first l = marks first zero l ≡ replicate (length l) true

-- Stretches of a tape of n bytes, behind a place. The next begins k bytes behind it at least, and a multiple of 16
-- bytes behind it; it has a byte and ends on the tape; and so on from its end, with 16 for k. From the end of the last
-- one up to the tape's end it is a multiple of 16 bytes.
abbrev pub Apart : ℕ → ℕ → ℕ → List Stretch → Type 0
Apart k place n [] = (place ≤ n) × ((n - place) % 16 ≡ 0)
Apart k place n (x ∷ xs) =
    (place + k ≤ x.first) × ((x.first - place) % 16 ≡ 0) × (0 < x.size) × (x.first + x.size ≤ n)
    × Apart 16 (x.first + x.size) n xs

-- the bytes of a tape from a place on that stand in no stretch
abbrev pub cut : ℕ → List Stretch → List ℕ → List ℕ
cut place [] l = l
cut place (x ∷ xs) l =
    take (x.first - place) l ++ cut (x.first + x.size) xs (drop (x.first + x.size - place) l)

-- 16 bytes of a tape make a record at a place
abbrev pub stands : List ℕ → ℕ → Bool
stands s at = makes (eqb at 0) (drop at s)

-- A kept record begins at an index of what is left of a tape, where k bytes more belong to one that began before.
unfoldable pub begins : Bool → ℕ → List ℕ → ℕ → Bool
begins first k [] i = false
begins first (suc k) (b ∷ l) zero = false
begins first (suc k) (b ∷ l) (suc i) = begins false k l i
begins first zero (b ∷ l) zero = makes first (b ∷ l)
begins first zero (b ∷ l) (suc i) = cond (makes first (b ∷ l)) (begins false 15 l i) (begins false zero l i)

-- a kept record begins at a place of a tape
abbrev pub kept_at : List ℕ → ℕ → Bool
kept_at s at = begins true zero s at

-- a kept record begins at a place, and byte i is one of its 16
abbrev pub Has : List ℕ → ℕ → ℕ → Type 0
Has s at i = (kept_at s at ≡ true) × (at ≤ i) × (i < at + 16)

-- byte i of a tape is kept
abbrev pub byte_kept : List ℕ → ℕ → Bool
byte_kept s i = get_or (marks true zero s) i false

-- byte i of a tape stands in one of these stretches
abbrev pub in_stretch : List Stretch → ℕ → Bool
in_stretch [] i = false
in_stretch (x ∷ xs) i = leb x.first i && ltb i (x.first + x.size) || in_stretch xs i

-- A buffer, old and new: w stands at its front, n numbers, and all behind them is as it was.
pub record Front (n : ℕ) (w old new : List ℕ) : Type 0 where
  pub front : take n new ≡ w
  pub rest : drop n new ≡ drop n old

-- What a salvage answers over buffers of n bytes and m numbers. Its counts: the records, 16 bytes each, and the list,
-- two numbers for each stretch, fit. Refused for want of room: the records do not fit, or the list does not.
pub data Answered (s : List ℕ) (n m : ℕ) : Result Salvaged Refusal → Type 0 where
  whole : 16 * length (found s) ≤ n → 2 * length (dropped s) ≤ m
      → Answered s n m (Ok (record { records = length (found s); stretches = length (dropped s); headed = headed s }))
  no_bytes : n < 16 * length (found s) → Answered s n m (Err Room)
  no_numbers : m < 2 * length (dropped s) → Answered s n m (Err Room)

-- What a piece answers over buffers of n bytes and m numbers. The salvage behind it and its counts: all fits. Refused
-- for want of room: the piece ends past the last place that 64 bits can say, or what is to be written does not fit, or
-- what is to be listed.
pub data PieceAnswered (t : Torn) (buf : List ℕ) (n m : ℕ) : Result Fed Refusal → Type 0 where
  whole : t.place + length buf ≤ last_place → length (written t buf) ≤ n → 2 * length (listed t buf) ≤ m
      → PieceAnswered t buf n m
      (Ok (record {
        torn = after t buf;
        done = length (decided t buf);
        kept = length (written t buf);
        cells = 2 * length (listed t buf);
      }))
  too_far : last_place < t.place + length buf → PieceAnswered t buf n m (Err Room)
  no_bytes : n < length (written t buf) → PieceAnswered t buf n m (Err Room)
  no_numbers : m < 2 * length (listed t buf) → PieceAnswered t buf n m (Err Room)
