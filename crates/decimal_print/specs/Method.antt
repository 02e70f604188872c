-- How decimals are printed: named by contracts of private functions alone, so that a method can change behind them.
use Rattle.std.specs.Prelude.{ℕ, zero, suc, ◌+◌, ◌*◌, ◌/◌, ◌%◌, cond, List, [], ◌∷◌, ◌++◌, ltb}

-- how many digits n has, if it has at most `most`
unfoldable pub width_in : ℕ → ℕ → ℕ
width_in zero n = 0
width_in (suc most) n = suc (cond (ltb n 10) 0 (width_in most (n / 10)))

-- the last k digits of n
unfoldable pub last_digits : ℕ → ℕ → List ℕ
last_digits zero n = []
last_digits (suc k) n = last_digits k (n / 10) ++ ((48 + n % 10) ∷ [])

-- so many numbers from p on, each ten times the one before; and the powers of ten that 64 bits hold
abbrev pub tenfold : ℕ → ℕ → List ℕ
tenfold zero p = []
tenfold (suc many) p = p ∷ tenfold many (p * 10)

abbrev pub powers_of_ten : List ℕ
powers_of_ten = tenfold 20 1
