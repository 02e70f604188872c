-- Which lines of a text begin with a blank: laws of `unindented`, by the parts of a line. Assumes nothing.
use Prim.Native.Nat.{ℕ, zero, suc}
use mathlib.Core.Bool.{Bool, true, false, cond, not}
use mathlib.Core.Path.{◌≡◌, refl, ap, ◌∙◌}
use mathlib.Core.List.{List, [], ◌∷◌, ◌++◌, append_assoc, append-nil}
use lib.Dec.{eqb, leb}
use lib.ListN.{length, length-append}
use borrow.Author.Tests.{not-true, ne_eqb, leb-true}
use native.Mathlib.Omega.{arith}
use Rattle.rules.specs.Line.{every}
use Rattle.rules.proofs.Tests.{both_true}
use Rattle.decimal.specs.Decimal.{digit, decimal, decimal_in}
use Rattle.decimal.proofs.BothWays.{every_append, decimal_digits_only}
use Rattle.text.specs.Words.{bytes, blank, line_end}
use Rattle.text.specs.Lines.{ended, begins, last_piece, lines}
use Rattle.text.specs.Printed.{walk_header}
use Rattle.show_text.specs.Block.{number, pair, slash, end, each}
use Rattle.show_text.specs.Words.{indented, unindented_of, unindented}

-- ---- bytes within a line

abbrev inside : ℕ → Bool
inside b = not (eqb b line_end)

-- No byte of a text is a line end.
abbrev pub Within : List ℕ → Type 0
Within l = every inside l ≡ true

pub within_both : (a b : List ℕ) → Within a → Within b → Within (a ++ b)
within_both a b p q = rw (every_append inside a b, p, q)

-- a digit is neither a line end nor a blank
digit_inside : (b : ℕ) → digit b ≡ true → (eqb b line_end ≡ false) × (eqb b blank ≡ false)
digit_inside b e =
    let h = leb-true 48 b (both_true (leb 48 b) (leb b 57) e).0 in
    (ne_eqb b line_end (λ z. omega (arith, h, z)), ne_eqb b blank (λ z. omega (arith, h, z)))

within_digits : (l : List ℕ) → every digit l ≡ true → Within l
within_digits [] e = refl
within_digits (b ∷ l) e = let w = both_true (digit b) (every digit l) e in rw (digit_inside b w.0).0 (within_digits l w.1)

pub within_decimal : (n : ℕ) → Within (decimal n)
within_decimal n = within_digits (decimal n) (decimal_digits_only n)

pub within_number : (n : ℕ) → Within (number n)
within_number n = within_decimal n

pub within_pair : (t n : ℕ) → Within (pair t n)
within_pair t n = within_both (number t) (slash ∷ decimal n) (within_number t) (within_decimal n)

pub within_if : (b : Bool) (l : List ℕ) → Within l → Within (cond b l [])
within_if true l w = w
within_if false l w = refl

pub within_unless : (b : Bool) (l : List ℕ) → Within l → Within (cond b [] l)
within_unless true l w = refl
within_unless false l w = w

pub within_each : (n : ℕ) (f : ℕ → List ℕ) → ((i : ℕ) → Within (f i)) → Within (each n f)
unfolding each
within_each zero f w = refl
within_each (suc n) f w = within_both (each n f) (f n) (within_each n f w) (w n)

-- ---- a text behind the bytes of a line that has begun

abbrev from : List ℕ → List ℕ → List ℕ
from begun text = unindented_of (ended begun text ++ last_piece (begins begun text))

one_byte : (b : ℕ) (begun rest : List ℕ) → eqb b line_end ≡ false → from begun (b ∷ rest) ≡ from (begun ++ (b ∷ [])) rest
unfolding ended begins
one_byte b begun rest e = rw e

goes_on : (xs begun rest : List ℕ) → Within xs → from begun (xs ++ rest) ≡ from (begun ++ xs) rest
goes_on [] begun rest w = rw append-nil
goes_on (x ∷ xs) begun rest w =
    let v = both_true (inside x) (every inside xs) w in
    one_byte x begun (xs ++ rest) (not-true (eqb x line_end) v.0) ∙ goes_on xs (begun ++ (x ∷ [])) rest v.1
    ∙ ap (λ (b : List ℕ). from b rest) (append_assoc begun (x ∷ []) xs)

line_over : (begun rest : List ℕ) → from begun (line_end ∷ rest) ≡ cond (indented begun) [] (begun ++ (line_end ∷ [])) ++ unindented rest
unfolding ended begins unindented_of unindented lines
line_over begun rest = refl

-- a whole line, by whether it begins with a blank
line_as : (l rest : List ℕ) (b : Bool) → Within l → indented l ≡ b → unindented ((l ++ end) ++ rest) ≡ cond b [] (l ++ end) ++ unindented rest
unfolding unindented lines
line_as l rest b w e = ap (from []) (append_assoc l end rest) ∙ goes_on l [] (line_end ∷ rest) w ∙ line_over l rest ∙ rw e

-- ---- lines that are dropped

abbrev pub Dropped : List ℕ → Type 0
Dropped xs = (rest : List ℕ) → unindented (xs ++ rest) ≡ unindented rest

pub line_dropped : (l : List ℕ) → Within l → indented l ≡ true → Dropped (l ++ end)
line_dropped l w e rest = line_as l rest true w e

pub dropped_none : Dropped []
dropped_none rest = refl

pub dropped_both : (a b : List ℕ) → Dropped a → Dropped b → Dropped (a ++ b)
dropped_both a b p q rest = rw (append_assoc a b rest, p (b ++ rest)) (q rest)

pub dropped_if : (c : Bool) (l : List ℕ) → Dropped l → Dropped (cond c l [])
dropped_if true l d = d
dropped_if false l d = dropped_none

pub dropped_each : (n : ℕ) (f : ℕ → List ℕ) → ((i : ℕ) → Dropped (f i)) → Dropped (each n f)
unfolding each
dropped_each zero f d = dropped_none
dropped_each (suc n) f d = dropped_both (each n f) (f n) (dropped_each n f d) (d n)

-- ---- lines that stay

abbrev pub Kept : List ℕ → Type 0
Kept xs = (rest : List ℕ) → unindented (xs ++ rest) ≡ xs ++ unindented rest

-- Whatever stands behind it, a line that begins so does not begin with a blank.
abbrev pub Unindented : List ℕ → Type 0
Unindented l = (b : List ℕ) → indented (l ++ b) ≡ false

pub line_kept : (l : List ℕ) → Within l → Unindented l → Kept (l ++ end)
line_kept l w u rest = line_as l rest false w (rw append-nil at (u []))

pub unindented_more : (a b : List ℕ) → Unindented a → Unindented (a ++ b)
unindented_more a b u c = ap indented (append_assoc a b c) ∙ u (b ++ c)

digits_unindented : (w : List ℕ) → every digit w ≡ true → (length w ≡ 0 → ⊥) → Unindented w
unfolding indented
digits_unindented [] e z b = absurd (z refl)
digits_unindented (d ∷ w) e z b = (digit_inside d (both_true (digit d) (every digit w) e).0).1

some_digit : (f n : ℕ) → length (decimal_in (suc f) n) ≡ 0 → ⊥
unfolding decimal_in
some_digit f n e = let w = simp length-append at e in omega (arith, w)

pub decimal_unindented : (n : ℕ) → Unindented (decimal n)
unfolding decimal
decimal_unindented n = digits_unindented (decimal n) (decimal_digits_only n) (some_digit 19 n)

pub header_kept : Kept walk_header
unfolding walk_header indented
header_kept = line_kept (bytes "n op code run rel clock") refl (λ b. refl)
