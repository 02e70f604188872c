-- Unsigned decimals without needless zeros, both ways. Bytes are numbers: 48 to 57 are '0' to '9'.
use Rattle.std.specs.Prelude.{ℕ, zero, suc, ◌+◌, ◌-◌, ◌*◌, ◌/◌, ◌%◌, Bool, true, false, cond, not, ◌&&◌, List, [], ◌∷◌, ◌++◌, eqb, leb, ltb}
use Rattle.rules.specs.Line.{every, within}
use Rattle.decimal.specs.declared.Reading.{Reading}

abbrev pub digit : ℕ → Bool
digit b = within 48 57 b

-- without needless zeros: "0" is right; "", "00" and "01" are not
unfoldable pub shortest : List ℕ → Bool
shortest [] = false
shortest (d ∷ []) = true
shortest (d ∷ (e ∷ l)) = not (eqb d 48)

-- the number that digits stand for, behind others that stand for n
unfoldable pub value_from : ℕ → List ℕ → ℕ
value_from n [] = n
value_from n (b ∷ l) = value_from (n * 10 + (b - 48)) l

-- What a word reads as, of numbers up to `most`: an unsigned decimal without needless zeros. Any other word is none,
-- and has 0.
unfoldable pub number_of : List ℕ → ℕ → Reading
number_of w most =
    cond (shortest w && every digit w && leb (value_from 0 w) most)
    (record { valid = true; value = value_from 0 w })
    (record { valid = false; value = 0 })

-- The decimal of n: that of its tenth, if n is above 9, then its last digit. It has at most `most` digits.
unfoldable pub decimal_in : ℕ → ℕ → List ℕ
decimal_in zero n = []
decimal_in (suc most) n = cond (ltb n 10) [] (decimal_in most (n / 10)) ++ ((48 + n % 10) ∷ [])

-- 64 bits have at most 20 digits
unfoldable pub decimal : ℕ → List ℕ
decimal n = decimal_in 20 n
