-- How decimals are read: named by contracts of private functions alone, so that a method can change behind them.
use Rattle.std.specs.Prelude.{ℕ, ◌^◌, true, false, cond, ◌&&◌, List, ltb}
use Rattle.rules.specs.Line.{every}
use Rattle.decimal.specs.declared.Reading.{Reading}
use Rattle.decimal.specs.Decimal.{digit, value_from}

-- what digits stand for, behind others that stand for n, if that fits 64 bits; a needless zero is not looked at
unfoldable pub digits_from : ℕ → List ℕ → Reading
digits_from n w =
    cond (every digit w && ltb (value_from n w) (2 ^ 64))
    (record { valid = true; value = value_from n w })
    (record { valid = false; value = 0 })
