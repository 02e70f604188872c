-- Salvages of tapes that are written out byte by byte, by computing.
-- Rules out: a definition that is wrong as the code is wrong. The numbers are distinct, so that none stands for another. Assumes nothing.
use Prim.Native.Nat.{ℕ}
use mathlib.Core.Path.{◌≡◌, refl}
use mathlib.Core.Bool.{Bool, true, false}
use mathlib.Core.List.{List, [], ◌∷◌, ◌++◌}
use Rattle.record.specs.Form.{record_of}
use Rattle.std.specs.Prelude.{Ok, Err}
use Rattle.rules.specs.declared.Refusal.TheVariants.{Room}
use Rattle.salvage_marks.specs.declared.Torn.{Torn}
use Rattle.salvage_marks.specs.Torn.{makes, marks, pick, closed, stretches, kept, dropped, found_on, found, headed, cells, fits, salvaged_of}
use Rattle.salvage_marks.specs.Pieces.{ahead, ended, begun, at_first, written, listed, after, fed_fits, fed_of, last_of}

-- ---- tapes

-- a header of an edition, with the 8 bytes of its value
abbrev header_of : ℕ → List ℕ → List ℕ
header_of edition value = 82 ∷ 86 ∷ 0 ∷ edition ∷ 0 ∷ 0 ∷ 0 ∷ 0 ∷ value

-- values below 256
abbrev small : ℕ → List ℕ
small v = v ∷ 0 ∷ 0 ∷ 0 ∷ 0 ∷ 0 ∷ 0 ∷ 0 ∷ []

-- a header of edition 2
abbrev header : List ℕ
header = header_of 2 (small 77)

-- two command records
abbrev create : List ℕ
create = 82 ∷ 86 ∷ 1 ∷ 4 ∷ 5 ∷ 0 ∷ 7 ∷ 8 ∷ small 6

abbrev closep : List ℕ
closep = 82 ∷ 86 ∷ 8 ∷ 2 ∷ 1 ∷ 13 ∷ 31 ∷ 30 ∷ small 0

-- three bytes in which nothing begins
abbrev junk : List ℕ
junk = 9 ∷ 82 ∷ 11 ∷ []

-- a command record cut short: 7 bytes of it, and 15
abbrev seven : List ℕ
seven = 82 ∷ 86 ∷ 1 ∷ 2 ∷ 3 ∷ 0 ∷ 0 ∷ []

abbrev fifteen : List ℕ
fifteen = 82 ∷ 86 ∷ 1 ∷ 4 ∷ 5 ∷ 0 ∷ 7 ∷ 8 ∷ 6 ∷ 0 ∷ 0 ∷ 0 ∷ 0 ∷ 0 ∷ 0 ∷ []

-- eight bytes with which a command record begins
abbrev eight : List ℕ
eight = 82 ∷ 86 ∷ 3 ∷ 21 ∷ 22 ∷ 12 ∷ 24 ∷ 25 ∷ []

-- ---- whole tapes

-- a tape, the new one, the list, and whether a header was kept
abbrev Row : List ℕ → List ℕ → List ℕ → Bool → Type 0
Row s k c h = (kept s ≡ k) × (cells (dropped s) ≡ c) × (headed s ≡ h)

-- an empty tape
empty : Row [] [] [] false
unfolding kept dropped headed marks pick stretches closed cells
empty = (refl, refl, refl)

-- Header, junk, command record, a header with no seed, command record, a record cut short: dropped are 3 bytes at 16, 16 at 35, and 7 at 67.
torn : Row (header ++ junk ++ create ++ header_of 1 (small 0) ++ closep ++ seven) (header ++ create ++ closep) (16 ∷ 3 ∷ 35 ∷ 16 ∷ 67 ∷ 7 ∷ []) true
unfolding kept dropped headed marks makes pick stretches closed cells record_of
torn = (refl, refl, refl)

-- a command record at byte 0
headless : Row (create ++ closep) (create ++ closep) [] false
unfolding kept dropped headed marks makes pick stretches closed cells record_of
headless = (refl, refl, refl)

-- headers at byte 0 that are kept: edition 1, edition 2, and the last seed
edition_one : Row (header_of 1 (small 88) ++ create) (header_of 1 (small 88) ++ create) [] true
unfolding kept dropped headed marks makes pick stretches closed cells record_of
edition_one = (refl, refl, refl)

edition_two : Row (header_of 2 (small 99) ++ closep) (header_of 2 (small 99) ++ closep) [] true
unfolding kept dropped headed marks makes pick stretches closed cells record_of
edition_two = (refl, refl, refl)

abbrev last_seeded : List ℕ
last_seeded = header_of 1 (255 ∷ 255 ∷ 255 ∷ 255 ∷ 0 ∷ 0 ∷ 0 ∷ 0 ∷ [])

last_seed : Row (last_seeded ++ create) (last_seeded ++ create) [] true
unfolding kept dropped headed marks makes pick stretches closed cells record_of
last_seed = (refl, refl, refl)

-- and that are not: edition 3, seed 0, seed 4294967296
edition_three : Row (header_of 3 (small 66) ++ create) create (0 ∷ 16 ∷ []) false
unfolding kept dropped headed marks makes pick stretches closed cells record_of
edition_three = (refl, refl, refl)

no_seed : Row (header_of 1 (small 0) ++ create) create (0 ∷ 16 ∷ []) false
unfolding kept dropped headed marks makes pick stretches closed cells record_of
no_seed = (refl, refl, refl)

seed_past : Row (header_of 2 (0 ∷ 0 ∷ 0 ∷ 0 ∷ 1 ∷ 0 ∷ 0 ∷ 0 ∷ []) ++ closep) closep (0 ∷ 16 ∷ []) false
unfolding kept dropped headed marks makes pick stretches closed cells record_of
seed_past = (refl, refl, refl)

-- Headers that are right, but not at byte 0: behind a header, behind command records, and behind junk, with nothing kept before it.
header_at_16 : Row (header ++ header_of 1 (small 88) ++ create) (header ++ create) (16 ∷ 16 ∷ []) true
unfolding kept dropped headed marks makes pick stretches closed cells record_of
header_at_16 = (refl, refl, refl)

header_at_32 : Row (create ++ closep ++ header) (create ++ closep) (32 ∷ 16 ∷ []) false
unfolding kept dropped headed marks makes pick stretches closed cells record_of
header_at_32 = (refl, refl, refl)

header_at_3 : Row (junk ++ header ++ create) create (0 ∷ 19 ∷ []) false
unfolding kept dropped headed marks makes pick stretches closed cells record_of
header_at_3 = (refl, refl, refl)

-- Of two records that overlap the first is kept, at 16: eight bytes of its own, and for a value the first half of the second. The second, at 24, is lost.
swallowed : Row (header ++ eight ++ create) (header ++ eight ++ (82 ∷ 86 ∷ 1 ∷ 4 ∷ 5 ∷ 0 ∷ 7 ∷ 8 ∷ [])) (32 ∷ 8 ∷ []) true
unfolding kept dropped headed marks makes pick stretches closed cells record_of
swallowed = (refl, refl, refl)

-- a last record that wants one byte
one_short : Row (header ++ fifteen) header (16 ∷ 15 ∷ []) true
unfolding kept dropped headed marks makes pick stretches closed cells record_of
one_short = (refl, refl, refl)

-- Room: 3 records, 48 bytes, and 1 stretch, 2 numbers. It fits exactly; then there is a byte less, and a number less.
abbrev three_kept : List ℕ
three_kept = header ++ junk ++ create ++ closep

room : (salvaged_of three_kept 48 2 ≡ Ok (record { records = 3; stretches = 1; headed = true })) × (salvaged_of three_kept 47 2 ≡ Err Room)
    × (salvaged_of three_kept 48 1 ≡ Err Room)
unfolding salvaged_of fits kept dropped found found_on headed marks makes pick stretches closed cells record_of
room = (refl, refl, refl)

-- ---- pieces

-- The first piece of a tape, 42 bytes: 35 are decided, 32 of them kept, and a stretch of 3 is listed; 7 wait. It fits exactly; then there is a byte less, and
-- a number less.
abbrev first_42 : List ℕ
first_42 = header ++ junk ++ create ++ seven

first_piece : fed_of at_first first_42 32 2 ≡ Ok (record { torn = record { place = 35; from = 35; headed = true }; done = 35; kept = 32; cells = 2 })
unfolding fed_of fed_fits written listed after ahead ended begun headed makes pick closed cells record_of
first_piece = refl

first_kept : (written at_first first_42 ≡ header ++ create) × (cells (listed at_first first_42) ≡ 16 ∷ 3 ∷ [])
unfolding written listed ahead ended makes pick closed cells record_of
first_kept = (refl, refl)

no_piece_room : (fed_of at_first first_42 31 2 ≡ Err Room) × (fed_of at_first first_42 32 1 ≡ Err Room)
unfolding fed_of fed_fits written listed ahead ended makes pick closed cells record_of
no_piece_room = (refl, refl)

-- A later piece, at byte 50, with a stretch open since byte 45: a header is dropped there, and the stretch ends at the command record behind it.
abbrev on_way : Torn
on_way = record { place = 50; from = 45; headed = true }

piece : fed_of on_way (header ++ create ++ junk) 16 2
    ≡ Ok (record { torn = record { place = 82; from = 82; headed = true }; done = 32; kept = 16; cells = 2 })
unfolding fed_of fed_fits written listed after ahead ended begun headed makes pick closed cells record_of
piece = refl

piece_kept : (written on_way (header ++ create ++ junk) ≡ create) × (cells (listed on_way (header ++ create ++ junk)) ≡ 45 ∷ 21 ∷ [])
unfolding written listed ahead ended makes pick closed cells record_of
piece_kept = (refl, refl)

-- a stretch that is said to begin past the place begins at it
made_up : cells (listed (record { place = 50; from = 60; headed = false }) (header ++ create)) ≡ 50 ∷ 16 ∷ []
unfolding listed ahead ended makes closed cells record_of
made_up = refl

-- the last place is 18446744073709551615: a piece that ends there, and one that ends behind it
at_last : fed_of (record { place = 18446744073709551612; from = 5; headed = false }) junk 0 0
    ≡ Ok (record { torn = record { place = 18446744073709551612; from = 5; headed = false }; done = 0; kept = 0; cells = 0 })
unfolding fed_of fed_fits written listed after ahead ended begun headed makes pick closed cells record_of
at_last = refl

past_last : fed_of (record { place = 18446744073709551613; from = 5; headed = false }) junk 0 0 ≡ Err Room
unfolding fed_of fed_fits written listed ahead ended makes pick closed cells record_of
past_last = refl

-- The last stretch: with 7 bytes undecided, with none and nothing open, and where the sum would pass the last place.
last : last_of on_way 7 ≡ record { first = 45; size = 12 }
unfolding last_of
last = refl

last_none : last_of (record { place = 35; from = 35; headed = true }) 0 ≡ record { first = 35; size = 0 }
unfolding last_of
last_none = refl

last_capped : last_of (record { place = 18446744073709551613; from = 18446744073709551611; headed = false }) 9
    ≡ record { first = 18446744073709551611; size = 4 }
unfolding last_of
last_capped = refl
