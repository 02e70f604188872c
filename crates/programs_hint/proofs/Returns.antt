-- A byte 13 stands in a piece where the search of `contains` finds one. Assumes nothing.
use Rattle.std.proofs.Common.{◌≡◌, ℕ, Bool, true, false, List, [], ◌∷◌, ◌||◌, eqb, refl, ap, sym, ◌∙◌}
use borrow.Author.Tests.{eqb-true, eqb-false, eq-eqb, ne_eqb}
use Rattle.std.specs.List.{list_any}
use Rattle.rules.specs.Line.{among}

either_way : (x y : ℕ) → eqb x y ≡ eqb y x
either_way x y = go (eqb x y) refl
  where
    go : (b : Bool) → eqb x y ≡ b → b ≡ eqb y x
    go true e = sym (eq-eqb y x (sym (eqb-true x y e)))
    go false e = sym (ne_eqb y x (λ f. eqb-false x y e (sym f)))

pub looked_for : (p : List ℕ) → among p 13 ≡ list_any (λ y. eqb y 13) p
looked_for [] = refl
looked_for (x ∷ p) = ap (λ b. b || among p 13) (sym (either_way x 13)) ∙ ap (λ b. eqb x 13 || b) (looked_for p)
