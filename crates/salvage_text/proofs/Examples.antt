-- The lines that docs/SALVAGE.md shows, by computing, and the longest ones. (That a line is put as it is defined, the contracts say; what the labels are, and
-- which number stands behind which, is a definition, and these hold it to the page. No two numbers of a line are alike, so that none may stand for another.)
-- Assumes nothing.
use mathlib.Core.Bool.{true, false}
use mathlib.Core.Path.{◌≡◌, refl}
use mathlib.Core.List.{[], ◌∷◌}
use lib.ListN.{length}
use Rattle.decimal.specs.Decimal.{decimal, decimal_in}
use Rattle.text.specs.Words.{bytes}
use Rattle.salvage_text.specs.Lines.{stretch_text, list_text, yes_no, last_text, stretch_room, last_room}

two_stretches : list_text (48 ∷ (17 ∷ (4097 ∷ (1 ∷ [])))) ≡ bytes "dropped: first byte 48, length 17\ndropped: first byte 4097, length 1\n"
unfolding list_text stretch_text decimal decimal_in
two_stretches = refl

no_stretch : list_text [] ≡ []
unfolding list_text
no_stretch = refl

with_header : last_text 1203 18 true ≡ bytes "kept: records 1203, dropped bytes 18, header yes\n"
unfolding last_text yes_no decimal decimal_in
with_header = refl

empty_tape : last_text 0 0 false ≡ bytes "kept: records 0, dropped bytes 0, header no\n"
unfolding last_text yes_no decimal decimal_in
empty_tape = refl

-- the longest lines fill their room: the largest numbers of 64 bits
longest_stretch : length (stretch_text 18446744073709551615 10000000000000000000) ≡ stretch_room
unfolding stretch_text decimal decimal_in
longest_stretch = refl

longest_last : length (last_text 10000000000000000000 18446744073709551615 true) ≡ last_room
unfolding last_text yes_no decimal decimal_in
longest_last = refl
