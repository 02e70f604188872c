-- A line carried out is what the definitions say; and whether a line has begun. Assumes nothing.
use Prim.Native.Nat.{ℕ, zero, suc, ◌+◌, ◌<◌, ◌≤◌}
use native.Mathlib.Omega.{arith}
use mathlib.Core.Bool.{true, false}
use mathlib.Core.Path.{◌≡◌, refl}
use mathlib.Core.List.{List, [], ◌∷◌}
use borrow.Author.Tests.{eq-eqb, ne_eqb, lt-ltb, le-ltb}
use lib.ListN.{length, take}
use Rattle.rules.specs.Line.{empty}
use Rattle.kernel.specs.declared.Kernel.{Kernel}
use Rattle.kernel.specs.declared.command.Answer.{Answer}
use Rattle.kernel.specs.Public.{answer_of, step_of, running_of}
use Rattle.text.specs.declared.Spoken.{Spoken}
use Rattle.text.specs.declared.Row.{Row}
use Rattle.session.specs.CarriedOut.{following, asked, state_behind, answer_to, row_of, CarriesOut}

pub one_more : (n : ℕ) → n < 18446744073709551615 → n + 1 ≡ following n
one_more n h = rw (lt-ltb n 18446744073709551615 h)

pub no_more : (n : ℕ) → 18446744073709551615 ≤ n → n ≡ following n
no_more n h = rw (le-ltb n 18446744073709551615 h)

module _ (k : Kernel) (n : ℕ) (s : Spoken) where
  pub says_none : (run : ℕ) (r : Row) → (s.code ≡ 0 → ⊥) → run ≡ running_of k → r ≡ row_of n s (answer_of s.code run 0) k.clock → CarriesOut k n s r k
  unfolding state_behind answer_to
  says_none run r z e er = (rw (ne_eqb s.code 0 z), rw (er, ne_eqb s.code 0 z, e))

  pub says_one : (k' : Kernel) (a : Answer) (r : Row) → s.code ≡ 0 → k' ≡ (step_of k (asked s)).next → a ≡ (step_of k (asked s)).answer
      → r ≡ row_of n s a k'.clock
      → CarriesOut k n s r k'
  unfolding state_behind answer_to
  says_one k' a r z ek ea er = (rw (eq-eqb s.code 0 z, ek), rw (er, eq-eqb s.code 0 z, ek, ea))

-- ---- what is held of a line that has begun

pub no_byte : (n : ℕ) (l : List ℕ) → n ≡ 0 → empty (take n l) ≡ true
no_byte n l e = rw e

pub some_byte : (n : ℕ) (l : List ℕ) → (n ≡ 0 → ⊥) → 0 < length l → empty (take n l) ≡ false
some_byte zero l z o = absurd (z refl)
some_byte (suc n) [] z o = absurd (omega arith)
some_byte (suc n) (b ∷ l) z o = refl
