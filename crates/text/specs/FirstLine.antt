-- Seed text, and the first line of draw: "seed S span N weights" with eight weights and "count K", all on one line of
-- at most 128 bytes.
use Rattle.std.specs.Prelude.{ℕ, zero, suc, Bool, true, false, cond, not, ◌&&◌, List, [], ◌∷◌, eqb, leb, length, take, drop, replicate}
use Rattle.rules.specs.Line.{empty}
use Rattle.rules.specs.Refusals.{first_number}
use Rattle.generator_draws.specs.Draw.{profile_of, good_profile}
use Rattle.text.specs.declared.SeedText.{SeedText}
use Rattle.text.specs.declared.Settings.{Settings}
use Rattle.text.specs.declared.FirstLine.{FirstLine}
use Rattle.decimal.specs.Decimal.{number_of}
use Rattle.text.specs.Words.{bytes, word, behind, same}
use Rattle.text.specs.Commands.{Part, decimal_next}

-- the largest seed, span and weight: 32 bits
abbrev pub word_most : ℕ
word_most = 4294967295

-- Seed text is 1 to 10 decimal digits, no sign, no leading zero; 17 where it is not 1..4294967295.
unfoldable pub seed_of : List ℕ → SeedText
seed_of w =
    cond ((number_of w word_most).valid && leb 1 (number_of w word_most).value)
    (record { code = 0; seed = (number_of w word_most).value })
    (record { code = 17; seed = 0 })

-- a text, and the line behind it
unfoldable pub text_next : List ℕ → List ℕ → Part
text_next text l =
    cond (same (take (length text) l) text)
    (record { valid = true; value = 0; left = drop (length text) l })
    (record { valid = false; value = 0; left = l })

-- k times a blank and a decimal up to `most`
pub record Decimals : Type 0 where
  pub valid : Bool
  pub values : List ℕ
  pub left : List ℕ

unfoldable pub decimals_next : ℕ → ℕ → List ℕ → Decimals
decimals_next zero most l = record { valid = true; values = []; left = l }
decimals_next (suc k) most l =
    let x = decimal_next most l in
    let more = decimals_next k most x.left in
    record { valid = x.valid && more.valid; values = x.value ∷ more.values; left = more.left }

-- What follows the seed's word: span and weights at most 4294967295, and K 1..100000.
unfoldable pub settings_of : List ℕ → Settings
settings_of l =
    let s = text_next (bytes " span") l in
    let span = decimal_next word_most s.left in
    let w = text_next (bytes " weights") span.left in
    let weights = decimals_next 8 word_most w.left in
    let k = text_next (bytes " count") weights.left in
    let count = decimal_next 100000 k.left in
    record {
      valid =
          s.valid && span.valid && w.valid && weights.valid && k.valid && count.valid && leb 1 count.value
          && empty count.left;
      span = span.value;
      weights = weights.values;
      count = count.value;
    }

unfoldable pub refused_with : ℕ → FirstLine
refused_with code = record { code = code; seed = 0; span = 0; weights = replicate 8 0; count = 0 }

-- What has the form is judged by its seed (17), then by its profile (18), as the generator judges it.
unfoldable pub judged : ℕ → Bool → ℕ
judged seed-code good = first_number ((not (eqb seed-code 0), 17) ∷ (not good, 18) ∷ [])

-- The seed's word is any bytes but blanks, at least one. A line without the form is 14, whatever its seed and its
-- profile.
unfoldable pub first_line_of : List ℕ → FirstLine
first_line_of line =
    let s = text_next (bytes "seed ") line in
    let seed = word s.left in
    let rest = settings_of (behind s.left) in
    let code = judged (seed_of seed).code (good_profile (profile_of rest.span rest.weights)) in
    cond (leb (length line) 128 && s.valid && not (empty seed) && rest.valid)
    (cond (eqb code 0)
    (record { code = 0; seed = (seed_of seed).seed; span = rest.span; weights = rest.weights; count = rest.count })
    (refused_with code))
    (refused_with 14)
