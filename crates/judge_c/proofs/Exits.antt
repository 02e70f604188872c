-- What the call leaves where four numbers are lent: they are stored one by one, and are then the four that are told. Assumes nothing.
use Prim.Native.Nat.{ℕ, ◌<◌}
use native.Mathlib.Omega.{arith}
use mathlib.Core.Path.{◌≡◌, refl, ap, ◌∙◌}
use mathlib.Core.List.{List, [], ◌∷◌}
use borrow.Author.Tests.{eq-eqb}
use lib.ListN.{length, get_or, set, length-set}
use Rattle.judge_verdict.specs.declared.Verdict.{Verdict}
use Rattle.judge_verdict.specs.declared.Verdict.TheVariants.{Agrees, Differs, Refused}
use Rattle.judge_verdict.specs.Verdict.{verdict_of}
use Rattle.judge_call.specs.declared.Reply.{Reply}
use Rattle.judge_call.specs.Call.{reply_of, reply_to, answer, numbers}

-- a store keeps the count
pub third : (l : List ℕ) (w x : ℕ) → length l ≡ 4 → 2 < length (set (set l 0 w) 1 x)
third l w x e = rw (length-set (set l 0 w) 1 x, length-set l 0 w, e) (omega arith)

pub fourth : (l : List ℕ) (w x y : ℕ) → length l ≡ 4 → 3 < length (set (set (set l 0 w) 1 x) 2 y)
fourth l w x y e = rw (length-set (set (set l 0 w) 1 x) 2 y, length-set (set l 0 w) 1 x, length-set l 0 w, e) (omega arith)

four_stored : (l : List ℕ) (w x y z : ℕ) → length l ≡ 4 → set (set (set (set l 0 w) 1 x) 2 y) 3 z ≡ w ∷ x ∷ y ∷ z ∷ []
four_stored [] w x y z e = absurd (omega arith)
four_stored (a ∷ []) w x y z e = absurd (omega arith)
four_stored (a ∷ (b ∷ [])) w x y z e = absurd (omega arith)
four_stored (a ∷ (b ∷ (c ∷ []))) w x y z e = absurd (omega arith)
four_stored (a ∷ (b ∷ (c ∷ (d ∷ [])))) w x y z e = refl
four_stored (a ∷ (b ∷ (c ∷ (d ∷ (f ∷ l))))) w x y z e = absurd (omega arith)

-- the four that are told are read off their list
four_told : (seed : ℕ) (v : Verdict) → let n = (reply_of seed v).numbers in get_or n 0 0 ∷ get_or n 1 0 ∷ get_or n 2 0 ∷ get_or n 3 0 ∷ [] ≡ n
four_told seed (Agrees k) = refl
four_told seed (Differs d) = refl
four_told seed (Refused e) = refl

module _ (tape lent : List ℕ) (r : Reply) (e : r ≡ reply_to (verdict_of tape)) (four : length lent ≡ 4) where
  pub answered : r.code ≡ answer tape lent
  unfolding answer
  answered = rw (eq-eqb (length lent) 4 four) (ap (λ (x : Reply). x.code) e)

  pub written : set (set (set (set lent 0 (get_or r.numbers 0 0)) 1 (get_or r.numbers 1 0)) 2 (get_or r.numbers 2 0)) 3 (get_or r.numbers 3 0)
      ≡ numbers tape lent
  unfolding numbers
  written =
      four_stored lent (get_or r.numbers 0 0) (get_or r.numbers 1 0) (get_or r.numbers 2 0) (get_or r.numbers 3 0) four
      ∙ rw (eq-eqb (length lent) 4 four, e) (four_told (verdict_of tape).seed (verdict_of tape).verdict)
