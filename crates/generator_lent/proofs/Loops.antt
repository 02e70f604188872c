-- What one turn of the loop of a choice does. Assumes nothing.
use Prim.Native.Nat.{ℕ, suc, ◌+◌, ◌-◌, ◌≤◌, ◌<◌}
use native.Mathlib.Omega.{arith}
use mathlib.Core.Path.{◌≡◌, sym, ap}
use borrow.Author.Tests.{lt-ltb, le-ltb}
use Rattle.generator_draws.specs.Xorshift.{draw}
use Rattle.generator_draws.specs.Below as below
use Rattle.generator_draws.specs.Below.{value, limit, taken, choose_within, even}
use Rattle.generator_lent.specs.declared.Choice.{Choice}
use Rattle.generator_lent.specs.Lent.{told_choice, taken_of}

-- a choice behind k draws
abbrev pub behind : ℕ → below.Choice → Choice
behind k c = record { number = c.number; seed = c.seed; spent = k + c.spent }

respent : (c : Choice) (a : ℕ) → c.spent ≡ a → c ≡ record { number = c.number; seed = c.seed; spent = a }
respent c a e = ap (λ (x : ℕ). let r : Choice = record { number = c.number; seed = c.seed; spent = x } in r) e

pub start : (n seed : ℕ) → told_choice (even n seed) ≡ behind 0 (choose_within 7 n seed)
unfolding even
start n seed = let c = choose_within 7 n seed in respent (told_choice c) (0 + c.spent) (omega arith)

module _ (n s spent : ℕ) where
  turn : spent < 7 → 7 - spent ≡ suc (6 - spent)
  turn h = omega arith

  pub stop : (x : ℕ) → spent < 7 → x ≡ draw s → x - 1 < limit n → taken_of x n (spent + 1) ≡ behind spent (choose_within (7 - spent) n s)
  stop x h e l =
      let g : value s < limit n = rw (sym e) l in
      rw (turn h, e) (rw (lt-ltb (value s) (limit n) g))

  pub again : (x : ℕ) → spent < 7 → x ≡ draw s → limit n ≤ x - 1
      → behind spent (choose_within (7 - spent) n s) ≡ behind (spent + 1) (choose_within (7 - (spent + 1)) n x)
  again x h e l =
      let g : limit n ≤ value s = rw (sym e) l in
      let k : 7 - (spent + 1) ≡ 6 - spent = omega arith in
      rw (turn h, k, e) (rw (le-ltb (value s) (limit n) g)
      (respent (behind spent (below.one_later (choose_within (6 - spent) n (draw s)))) (spent + 1 + (choose_within (6 - spent) n (draw s)).spent) (omega arith)))

  pub last : (x : ℕ) → spent ≤ 7 → 7 ≤ spent → x ≡ draw s → taken_of x n 8 ≡ behind spent (choose_within (7 - spent) n s)
  last x h g e =
      let k : 7 - spent ≡ 0 = omega arith in
      rw (k, e) (sym (respent (behind spent (taken n s)) 8 (omega arith)))
