-- A draw (Marsaglia, Xorshift RNGs, 2003).
use Rattle.std.specs.Prelude.{ℕ, ◌*◌, ◌/◌, ◌%◌, ◌^◌}
use Rattle.std.specs.Int.Bits.{bit_xor}

-- x xor (x shifted left by k), in 32 bits; x xor (x shifted right by k)
abbrev pub left : ℕ → ℕ → ℕ
left x k = bit_xor x (x * 2 ^ k % 2 ^ 32)

abbrev pub right : ℕ → ℕ → ℕ
right x k = bit_xor x (x / 2 ^ k)

-- A draw sets x to x xor (x shifted left 13), then xor (shifted right 17), then xor (shifted left 5), in 32 bits, and
-- yields x.
unfoldable pub draw : ℕ → ℕ
draw x = left (right (left x 13) 17) 5
