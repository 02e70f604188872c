-- How a number below n is chosen from a seed: one rule for each edition, and the plain draw of what is not needed.
use Rattle.std.specs.Prelude.{ℕ, zero, suc, ◌-◌, ◌%◌, cond, eqb, ltb}
use Rattle.generator_draws.specs.Xorshift.{draw}

-- What a choice hands back: the number, the seed left behind, and how many draws it spent.
pub record Choice : Type 0 where
  pub number : ℕ
  pub seed : ℕ
  pub spent : ℕ

-- How a number below n is chosen, by n and the seed. It is all that the editions differ in.
abbrev pub Chooser : Type 0
Chooser = ℕ → ℕ → Choice

-- Edition 1: the remainder of one draw.
abbrev pub remainder : Chooser
remainder n seed = record { number = draw seed % n; seed = draw seed; spent = 1 }

-- Edition 2 takes v = draw - 1, and L, the largest multiple of n not above 4294967295.
abbrev pub value : ℕ → ℕ
value seed = draw seed - 1

abbrev pub limit : ℕ → ℕ
limit n = 4294967295 - 4294967295 % n

-- the choice v mod n of one draw, and a choice that was made one draw later
abbrev pub taken : ℕ → ℕ → Choice
taken n seed = record { number = value seed % n; seed = draw seed; spent = 1 }

abbrev pub one_later : Choice → Choice
one_later c = record { number = c.number; seed = c.seed; spent = suc c.spent }

-- If v is below L the choice is v mod n, otherwise it draws again, at most `more` times; the last draw always gives v
-- mod n.
abbrev pub choose_within : ℕ → Chooser
choose_within zero n seed = taken n seed
choose_within (suc more) n seed =
    cond (ltb (value seed) (limit n)) (taken n seed) (one_later (choose_within more n (draw seed)))

-- at most 8 draws in all
unfoldable pub even : Chooser
even n seed = choose_within 7 n seed

-- A number below n, where one is needed; what is not needed (n = 0) spends one plain draw.
abbrev pub plain : ℕ → Choice
plain seed = record { number = 0; seed = draw seed; spent = 1 }

abbrev pub if_needed : Chooser → Chooser
if_needed choose n seed = cond (eqb n 0) (plain seed) (choose n seed)
