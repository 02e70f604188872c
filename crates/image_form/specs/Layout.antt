-- The image: the 512 bytes that a state is written as for C hosts. docs/IMAGE.md has the same, byte by byte.
use Rattle.std.specs.Prelude.{ℕ, zero, suc, ◌+◌, ◌*◌, ◌/◌, ◌%◌, Bool, cond, ◌&&◌, List, [], ◌∷◌, ◌++◌, eqb, leb, length, take, drop, get_or, replicate}
use Rattle.rules.specs.Line.{one_if}
use Rattle.kernel_line.specs.Tables.{zeros}
use Rattle.record.specs.Form.{le8, of_le}
use Rattle.kernel.specs.declared.Kernel.{Kernel}
use Rattle.rules_exceptions.specs.Exceptions.{pending_sound}
use Rattle.kernel_state.specs.declared.State.{State}
use Rattle.kernel_state.specs.Public.{both, is_sound}

-- The length of an image.
abbrev pub image_bytes : ℕ
image_bytes = 512

-- Numbers of 8 bytes, least first as on a tape, one behind another: their bytes, and the n numbers that bytes hold.
unfoldable pub bytes_of : List ℕ → List ℕ
bytes_of [] = []
bytes_of (x ∷ l) = le8 x ++ bytes_of l

unfoldable pub numbers_of : ℕ → List ℕ → List ℕ
numbers_of zero s = []
numbers_of (suc n) s = of_le s 0 ∷ numbers_of n (drop 8 s)

-- Whether the machine is started, and 7 spare bytes: for the profile (9) and the map of levels (12..15).
abbrev pub flags : Bool → List ℕ
flags started = one_if started ∷ replicate 7 0

-- The pending exceptions as a number of 4 bytes, least first (bit t is task t's), and 28 spare bytes.
abbrev pub exceptions : ℕ → List ℕ
exceptions p = p % 256 ∷ p / 256 % 256 ∷ p / 65536 % 256 ∷ p / 16777216 % 256 ∷ replicate 28 0

-- A table of 32 spare bytes.
abbrev pub spare : List ℕ
spare = replicate 32 0

-- The image of a state: its parts from byte 0, 8, 16, 24, then 32, 64, 96, 128, 160, 192, 224 and 256 on.
unfoldable pub image_of : State → List ℕ
image_of s =
    let k = s.kernel in
    le8 k.clock ++ flags k.started ++ k.ceiling ++ k.waiter ++ k.base ++ k.ready ++ k.delayed
    ++ k.held ++ k.way ++ exceptions s.pending ++ spare ++ bytes_of k.until

-- n bytes from an index on.
abbrev pub part : ℕ → ℕ → List ℕ → List ℕ
part n at s = take n (drop at s)

-- The tables that bytes hold, whatever they are.
unfoldable pub kernel_of : List ℕ → Kernel
kernel_of s = record {
  base = part 32 32 s;
  ready = part 32 64 s;
  delayed = part 32 96 s;
  held = part 32 128 s;
  way = part 32 160 s;
  until = numbers_of 32 (drop 256 s);
  ceiling = part 8 16 s;
  waiter = part 8 24 s;
  clock = of_le s 0;
  started = eqb (get_or s 8 0) 1;
}

-- The pending exceptions that bytes hold: the number of the 4 bytes from 192 on.
unfoldable pub pending_of : List ℕ → ℕ
pending_of s = get_or s 192 0 + 256 * get_or s 193 0 + 65536 * get_or s 194 0 + 16777216 * get_or s 195 0

-- The state that bytes hold, whatever it is.
abbrev pub state_of : List ℕ → State
state_of s = both (kernel_of s) (pending_of s)

-- What the state does not use is as it must be: byte 8 is 0 or 1, and every spare byte is 0.
unfoldable pub clean : List ℕ → Bool
clean s = leb (get_or s 8 0) 1 && zeros (part 7 9 s) && zeros (part 28 196 s) && zeros (part 32 224 s)

-- So many bytes, of which a state can be read.
unfoldable pub formed : List ℕ → Bool
formed s = eqb (length s) image_bytes && clean s

-- An image: such bytes, whose state is sound.
unfoldable pub is_image : List ℕ → Bool
is_image s = formed s && is_sound (state_of s)

-- Such bytes, whose pending exceptions are sound: what is asked before the tables are read (proofs/Asked: the tables
-- decide the rest).
unfoldable pub readable : List ℕ → Bool
readable s = formed s && pending_sound (kernel_of s).started (kernel_of s).base (pending_of s)

-- Read into tables that held k: bytes that are not so leave them as they are.
abbrev pub read_of : List ℕ → Kernel → Kernel
read_of s k = cond (readable s) (kernel_of s) k

-- Laid out in bytes s: bytes of another length stay as they are.
abbrev pub laid : List ℕ → State → List ℕ
laid s k = cond (eqb (length s) image_bytes) (image_of k) s
