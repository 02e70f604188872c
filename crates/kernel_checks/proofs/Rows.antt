-- The checks behind Range, of a kind that is known; and what they see of the tables. Assumes nothing.
use Prim.Native.Nat.{ℕ, zero}
use mathlib.Core.Path.{◌≡◌, refl}
use mathlib.Core.Bool.{Bool, true, false, cond}
use mathlib.Core.Logic.{◌≢◌}
use native.Mathlib.Omega.{arith}
use mathlib.Core.List.{List, [], map}
use lib.Dec.{eqb}
use lib.ListN.{get_or, get_or-map}
use Rattle.rules.specs.declared.Kind.{Kind}
use Rattle.std.specs.Prelude.{Result, Ok, Err}
use Rattle.rules.specs.declared.Refusal.{Refusal}
use Rattle.rules.specs.Numbers.{number_of}
use Rattle.rules.proofs.Codes.{one_code}
use Rattle.rules.specs.Line.{at, empty}
use Rattle.rules.specs.Machine.{Machine, Command}
use Rattle.rules.specs.Refusals.{behind_range, first_number, formed_as}
use Rattle.kernel_checks.specs.Shown.{nobody_or, refusal_as}

-- what is not formed is refused by 4, and what is formed by the checks behind it
pub not_formed : (k : Kind) (m : Machine) (c : Command) → formed_as k c ≡ false → 4 ≡ refusal_as k m c
unfolding refusal_as
not_formed k m c e = rw e

pub behind : (k j : Kind) (m : Machine) (c : Command) → k ≡ j → formed_as k c ≡ true → first_number (behind_range j m c) ≡ refusal_as k m c
unfolding refusal_as
behind k j m c e f = rw (f, e)

-- nobody waits where the cell is 0
pub none_waits : (l : List ℕ) (o : ℕ) → empty (get_or (map nobody_or l) o []) ≡ eqb (at l o) 0
none_waits l o = rw (get_or-map nobody_or l o 0) (go (at l o))
  where
    cell : (x : ℕ) (b : Bool) → eqb x 0 ≡ b → empty (nobody_or x) ≡ b
    cell x true e = rw e
    cell x false e = rw e

    go : (x : ℕ) → empty (nobody_or x) ≡ eqb x 0
    go x = cell x (eqb x 0) refl

-- Six checks, and another behind them, which is asked where none of the six refuses.
abbrev pub six : Bool → Bool → Bool → Bool → Bool → Bool → ℕ → ℕ
six a b c d e f n = cond a 2 (cond b 6 (cond c 7 (cond d 8 (cond e 10 (cond f 11 n)))))

pub first_of_six : (a b c d e f : Bool) (x n : ℕ) → x ≢ 0 → x ≡ six a b c d e f 0 → x ≡ six a b c d e f n
first_of_six true b c d e f x n h k = k
first_of_six false true c d e f x n h k = k
first_of_six false false true d e f x n h k = k
first_of_six false false false true e f x n h k = k
first_of_six false false false false true f x n h k = k
first_of_six false false false false false true x n h k = k
first_of_six false false false false false false x n h k = absurd (h k)

pub none_of_six : (a b c d e f : Bool) (x n : ℕ) → zero ≡ six a b c d e f 0 → x ≡ n → x ≡ six a b c d e f n
none_of_six true b c d e f x n k h = absurd (omega arith)
none_of_six false true c d e f x n k h = absurd (omega arith)
none_of_six false false true d e f x n k h = absurd (omega arith)
none_of_six false false false true e f x n k h = absurd (omega arith)
none_of_six false false false false true f x n k h = absurd (omega arith)
none_of_six false false false false false true x n k h = absurd (omega arith)
none_of_six false false false false false false x n k h = h

-- what refuses has no 0
pub some_number : (r : Refusal) → number_of r ≢ 0
some_number r e = let passes : ◌≡◌ {A = Result Unit Refusal} (Err r) (Ok tt) = one_code e refl in cc
