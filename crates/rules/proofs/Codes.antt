-- A check's number says which check it is: two that have one number are one. Assumes nothing.
use Prim.Native.Nat.{ℕ}
use mathlib.Core.Path.{◌≡◌, refl, sym, ap, ◌∙◌}
use mathlib.Core.List.{List, [], ◌∷◌}
use lib.ListN.{get_or}
use Rattle.std.specs.Prelude.{Result, Ok, Err}
use Rattle.rules.specs.declared.Refusal.{Refusal}
use Rattle.rules.specs.declared.Refusal.TheVariants.{Shape, Early, Late, Range, Taken, Missing, Idle, Inside, Outside}
use Rattle.rules.specs.declared.Refusal.TheVariants.{Ceiling, Held, Queue, Clock, Line, Record, Room, Seed, Profile}
use Rattle.rules.specs.Numbers.{code_of}

-- the checks, by their numbers
checks : List (Result Unit Refusal)
checks =
    Ok tt ∷ Err Shape ∷ Err Early ∷ Err Late ∷ Err Range ∷ Err Taken ∷ Err Missing ∷ Err Idle ∷ Err Inside ∷ Err Outside ∷ Err Ceiling ∷ Err Held ∷ Err Queue
    ∷ Err Clock ∷ Err Line ∷ Err Record ∷ Err Room ∷ Err Seed ∷ Err Profile ∷ []

of_its_code : (r : Result Unit Refusal) → get_or checks (code_of r) (Ok tt) ≡ r
unfolding checks
of_its_code (Ok u) = refl
of_its_code (Err Shape) = refl
of_its_code (Err Early) = refl
of_its_code (Err Late) = refl
of_its_code (Err Range) = refl
of_its_code (Err Taken) = refl
of_its_code (Err Missing) = refl
of_its_code (Err Idle) = refl
of_its_code (Err Inside) = refl
of_its_code (Err Outside) = refl
of_its_code (Err Ceiling) = refl
of_its_code (Err Held) = refl
of_its_code (Err Queue) = refl
of_its_code (Err Clock) = refl
of_its_code (Err Line) = refl
of_its_code (Err Record) = refl
of_its_code (Err Room) = refl
of_its_code (Err Seed) = refl
of_its_code (Err Profile) = refl

pub one_code : {r s : Result Unit Refusal} {n : ℕ} → code_of r ≡ n → code_of s ≡ n → r ≡ s
one_code {r = r} {s = s} e f = sym (of_its_code r) ∙ ap (λ (k : ℕ). get_or checks k (Ok tt)) (e ∙ sym f) ∙ of_its_code s
