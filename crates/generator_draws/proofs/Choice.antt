-- The choice by running sums: what is drawn is legal and of a weight of at least 1, and each such kind is drawn by some first draw.
-- Assumes nothing.
use Prim.Native.Nat.{ℕ, zero, suc, ◌+◌, ◌*◌, ◌≤◌, ◌<◌}
use native.Mathlib.Omega.{arith}
use mathlib.Core.Path.{◌≡◌, refl, ap, ◌∙◌}
use mathlib.Core.Bool.{Bool, true, false, cond}
use mathlib.Core.List.{List, [], ◌∷◌}
use lib.Dec.{leb, ltb}
use lib.ListN.{get_or, length}
use borrow.Author.Tests.{leb-true, ltb-true, ltb-false, lt-ltb, le-ltb}
use Rattle.rules.specs.Line.{every}
use Rattle.rules.proofs.Words.{All}
use Rattle.rules.proofs.Tests.{both_true}
use Rattle.generator_draws.specs.Menu.{Offer}
use Rattle.generator_draws.specs.Draw.{weigh, total, choose, no_offer}

-- What holds of every command that weighs something holds of the one that is chosen.
pub choose_all : (P : Offer → Type 0) (d sum : ℕ) (l : List (ℕ × Offer)) → All (λ x. 1 ≤ x.0 → P x.1) l → sum ≤ d → d < sum + total l
    → P (choose d sum l)
choose_all P d sum [] k lo hi = absurd (omega arith)
choose_all P d sum (x ∷ l) k lo hi = go (ltb d (sum + x.0)) refl (λ h. choose_all P d (sum + x.0) l k.1 h (omega arith))
  where
    go : (b : Bool) → ltb d (sum + x.0) ≡ b → (sum + x.0 ≤ d → P (choose d (sum + x.0) l)) → P (cond b x.1 (choose d (sum + x.0) l))
    go true e r = k.0 (let w : d < sum + x.0 = ltb-true _ _ e in omega arith)
    go false e r = r (ltb-false _ _ e)

-- The entry i, if it weighs something, is chosen by the sum of the weights ahead of it.
abbrev pub entry : List (ℕ × Offer) → ℕ → ℕ × Offer
entry l i = get_or l i (0, no_offer)

-- the sum of the weights ahead of the entry i
abbrev pub ahead : List (ℕ × Offer) → ℕ → ℕ
ahead [] i = 0
ahead (x ∷ l) zero = 0
ahead (x ∷ l) (suc i) = x.0 + ahead l i

-- an entry whose weight does not reach above d is passed by
passed_by : (d sum : ℕ) (x : ℕ × Offer) (l : List (ℕ × Offer)) → sum + x.0 ≤ d → choose d sum (x ∷ l) ≡ choose d (sum + x.0) l
passed_by d sum x l h = rw (le-ltb d (sum + x.0) h)

pub chosen_by : (l : List (ℕ × Offer)) (i sum : ℕ) → 1 ≤ (entry l i).0 → (ahead l i < total l) × (choose (sum + ahead l i) sum l ≡ (entry l i).1)
chosen_by [] i sum h = absurd (omega arith)
chosen_by (x ∷ l) zero sum h = (omega arith, rw (lt-ltb (sum + 0) (sum + x.0) (omega arith)))
chosen_by (x ∷ l) (suc i) sum h =
    let w = chosen_by l i (sum + x.0) h in
    let e : sum + ahead (x ∷ l) (suc i) ≡ sum + x.0 + ahead l i = omega arith in (
      omega (arith, w.0),
      passed_by (sum + ahead (x ∷ l) (suc i)) sum x l (omega arith) ∙ ap (λ (d : ℕ). choose d (sum + x.0) l) e ∙ w.1,
    )

-- What is weighed: the offer i has its weight if it is legal, and nothing else.
pub weighed : (l : List Offer) (ws : List ℕ) (i : ℕ) (o : Offer) → i < length ws → i < length l
    → entry (weigh l ws) i ≡ (cond (get_or l i o).legal (get_or ws i 0) 0, get_or l i o)
weighed [] ws i o h g = absurd (omega arith)
weighed (x ∷ l) [] i o h g = absurd (omega arith)
weighed (x ∷ l) (w ∷ ws) zero o h g = refl
weighed (x ∷ l) (w ∷ ws) (suc i) o h g = weighed l ws i o (omega arith) (omega arith)

-- What holds of each legal offer with a weight holds of what is weighed.
pub weigh_all : (P : ℕ → Offer → Type 0) (l : List Offer) (ws : List ℕ)
    → ((i : ℕ) (o : Offer) → i < length l → 1 ≤ get_or ws i 0 → (get_or l i o).legal ≡ true → P i (get_or l i o))
    → (Q : Offer → Type 0) → ((i : ℕ) (o : Offer) → P i o → Q o) → All (λ x. 1 ≤ x.0 → Q x.1) (weigh l ws)
weigh_all P [] ws f Q g = tt
weigh_all P (x ∷ l) [] f Q g = tt
weigh_all P (x ∷ l) (w ∷ ws) f Q g =
    (λ h. g 0 x (go x.legal refl h), weigh_all (λ i. P (suc i)) l ws (λ i o h u e. f (suc i) o (omega arith) u e) Q (λ i. g (suc i)))
  where
    go : (b : Bool) → x.legal ≡ b → 1 ≤ cond b w 0 → P 0 x
    go true e h = f 0 x (omega arith) h e
    go false e h = absurd (omega arith)

pub total_has : (l : List (ℕ × Offer)) (i : ℕ) → (entry l i).0 ≤ total l
total_has [] i = omega arith
total_has (x ∷ l) zero = omega arith
total_has (x ∷ l) (suc i) = omega (arith, total_has l i)

-- The total is at most 100 for each kind.
pub total_small : (ks : List Offer) (ws : List ℕ) → every (λ w. leb w 100) ws ≡ true → total (weigh ks ws) ≤ 100 * length ks
total_small [] ws h = omega arith
total_small (k ∷ ks) [] h = omega arith
total_small (k ∷ ks) (w ∷ ws) h =
    let g = both_true (leb w 100) (every (λ w. leb w 100) ws) h in
    let a : w ≤ 100 = leb-true w 100 g.0 in
    omega (arith, total_small ks ws g.1, at_most k.legal)
  where
    at_most : (b : Bool) → cond b w 0 ≤ w
    at_most true = omega arith
    at_most false = omega arith
