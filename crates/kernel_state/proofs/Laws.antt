-- What the code needs of bits, beside the laws of rules_exceptions. Assumes nothing.
use Prim.Native.Nat.{ℕ, ◌+◌, ◌-◌, ◌≤◌, ◌<◌, ◌^◌}
use native.Mathlib.Omega.{arith}
use native.Mathlib.Numerals.{add-one}
use mathlib.Core.Path.{◌≡◌, refl, sym, ◌∙◌}
use mathlib.Core.Bool.{Bool, true, false, not, ◌&&◌, ◌||◌, true≢false}
use mathlib.Core.List.{List}
use lib.Dec.{eqb}
use borrow.Author.Tests.{lt-ltb, le-ltb, not-true, not-false}
use Rattle.kernel_state.specs.Settle.{set_for}
use Rattle.rules.specs.Line.{at, all_below}
use Rattle.rules_exceptions.specs.Exceptions.{has, cleared, pending_sound}
use Rattle.rules_exceptions.proofs.Bits.{has_none, has_below, has_some, raised_below}
use Rattle.rules_exceptions.proofs.Kept.{tests_pending}

pub none_above : (p t : ℕ) → p < 2 ^ 32 → 31 < t → false ≡ has p t
none_above p t h k = go (has p t) refl
  where
    go : (b : Bool) → has p t ≡ b → false ≡ b
    go true e = absurd (omega (arith, has_below 32 p t h e))
    go false e = refl

-- An exception is set: for what is no task; for nobody, or where one is pending; and else. `r` is what `has` answered.
pub set_beyond : (p t : ℕ) → 31 < t → p ≡ set_for p t
set_beyond p t h = rw (le-ltb t 32 h)

pub set_kept : (p t : ℕ) (r : Bool) → t ≤ 31 → r ≡ has p t → (eqb t 0 || r) ≡ true → p ≡ set_for p t
set_kept p t r h e k = rw (lt-ltb t 32 (omega arith), rw e at k)

pub set_more : (p t x : ℕ) (r : Bool) → t ≤ 31 → r ≡ has p t → (eqb t 0 || r) ≡ false → x ≡ 2 ^ t → p + x ≡ set_for p t
set_more p t x r h e k q = rw (lt-ltb t 32 (omega arith), rw e at k, q)

pub set_fits : (p t x : ℕ) (r : Bool) → p < 2 ^ 32 → t ≤ 31 → r ≡ has p t → (eqb t 0 || r) ≡ false → x ≡ 2 ^ t → p + x < 2 ^ 32
set_fits p t x r f h e k q = let w = raised_below 32 p t f (omega arith) in rw q (rw (rw e at k) at w)

-- An exception is cleared, or there is none.
pub clear_none : (p t : ℕ) (r : Bool) → r ≡ has p t → not r ≡ true → p ≡ cleared p t
clear_none p t r e k = let w : has p t ≡ false = sym e ∙ not-true _ k in rw w

pub clear_less : (p t x : ℕ) (r : Bool) → r ≡ has p t → not r ≡ false → x ≡ 2 ^ t → p - x ≡ cleared p t
clear_less p t x r e k q = let w : has p t ≡ true = sym e ∙ not-false _ k in rw (w, q)

pub clear_below : (p t : ℕ) (r : Bool) → p < 2 ^ 32 → r ≡ has p t → not r ≡ false → t < 32
clear_below p t r f e k = has_below 32 p t f (sym e ∙ not-false _ k)

pub clear_some : (p t x : ℕ) (r : Bool) → r ≡ has p t → not r ≡ false → x ≡ 2 ^ t → x ≤ p
clear_some p t x r e k q = rw q (has_some p t (sym e ∙ not-false _ k))

-- what `pending_sound` asks of each task
abbrev pub allowed : Bool → List ℕ → ℕ → ℕ → Bool
allowed started base p t = not (has p t) || started && not (eqb t 0) && not (eqb (at base t) 0)

pub one_allowed : (started : Bool) (base : List ℕ) (p t : ℕ) (fit : Bool) → fit ≡ all_below t (allowed started base p)
    → allowed started base p t && fit ≡ all_below (t + 1) (allowed started base p)
unfolding all_below
one_allowed started base p t fit e = rw (add-one, e)

pub none_sound : (started : Bool) (base : List ℕ) (p : ℕ) → p ≡ 0 → true ≡ pending_sound started base p
none_sound started base p e =
    sym ((tests_pending started base p).found (rw e (record { few = omega arith; whose = λ t h. absurd (true≢false (sym h ∙ has_none t)) })))

pub all_sound : (started : Bool) (base : List ℕ) (p : ℕ) → p < 2 ^ 32 → (fit : Bool) → fit ≡ all_below 32 (allowed started base p) → fit ≡ pending_sound started base p
unfolding pending_sound
all_sound started base p h fit e = rw (lt-ltb p (2 ^ 32) h) e
