-- No second answer, of any function's contract as the check states it (`clauses`: what its author wrote behind `ensures`), and of any arguments whatever:
-- two answers that both meet the contract are one answer; and of what was lent to be changed, two final contents that meet it are one.
-- Rules out: a contract that leaves an answer open, or says nothing. Leaves: which answer it is; that is what the definitions of specs/ say.
-- What is lent to be read only (`&`) the language does not let change, so there is nothing to show of it.
-- The laws: two values that are equal to a third are equal (`one`), and so are pairs, triples and more, part by part (`both` with `each_of_two` .. `each_of_five`).
-- A contract that is no equation with what is seen does not fit them. Each crate whose functions answer something has a file proofs/Single that cites them,
-- a statement for each public function (tools/contracts.py looks that none is missing). Assumes nothing.
use mathlib.Core.Path.{◌≡◌, sym, ◌∙◌}
use seplogic.Ra.Ura.{Ura}
use base.Logic.{ent}
use contract.Lifetimes.{Lfts}
use contract.Monad.{conj, fact, fact_use, conj_l, conj_r, fact_i}
use denote.Triple.Entry.{Args, Res}
use denote.Triple.Clauses.{Ended, AtExit, Clauses}

-- Two pairs, and two triples, whose parts are equal to a third's.

pub same_pair : {X Y : Type 0} {r s : X} {m n : Y} → r ≡ s → m ≡ n → ◌≡◌ {A = X × Y} (r, m) (s, n)
same_pair p q = cc

pub same_three : {X Y Z : Type 0} {r s : X} {m n : Y} {u v : Z} → r ≡ s → m ≡ n → u ≡ v → ◌≡◌ {A = X × Y × Z} (r, m, u) (s, n, v)
same_three p q h = cc

pub each_of_two : {X Y : Type 0} {x r s : X} {y m n : Y} → (r ≡ x) × (m ≡ y) → (s ≡ x) × (n ≡ y) → ◌≡◌ {A = X × Y} (r, m) (s, n)
each_of_two p q = same_pair (p.0 ∙ sym q.0) (p.1 ∙ sym q.1)

pub each_of_three : {X Y Z : Type 0} {x r s : X} {y m n : Y} {z u v : Z} → (r ≡ x) × (m ≡ y) × (u ≡ z) → (s ≡ x) × (n ≡ y) × (v ≡ z)
    → ◌≡◌ {A = X × Y × Z} (r, m, u) (s, n, v)
each_of_three p q = same_three (p.0 ∙ sym q.0) (p.1 ∙ sym q.1) (p.2 ∙ sym q.2)

-- Four and five parts.

same_four : {X Y Z W : Type 0} {r s : X} {m n : Y} {u v : Z} {g h : W} → r ≡ s → m ≡ n → u ≡ v → g ≡ h → ◌≡◌ {A = X × Y × Z × W} (r, m, u, g) (s, n, v, h)
same_four a b c d = cc

pub each_of_four : {X Y Z W : Type 0} {x r s : X} {y m n : Y} {z u v : Z} {w g h : W} → (r ≡ x) × (m ≡ y) × (u ≡ z) × (g ≡ w)
    → (s ≡ x) × (n ≡ y) × (v ≡ z) × (h ≡ w) → ◌≡◌ {A = X × Y × Z × W} (r, m, u, g) (s, n, v, h)
each_of_four p q = same_four (p.0 ∙ sym q.0) (p.1 ∙ sym q.1) (p.2 ∙ sym q.2) (p.3 ∙ sym q.3)

same_five : {X Y Z W Q : Type 0} {r s : X} {m n : Y} {u v : Z} {g h : W} {k l : Q} → r ≡ s → m ≡ n → u ≡ v → g ≡ h → k ≡ l
    → ◌≡◌ {A = X × Y × Z × W × Q} (r, m, u, g, k) (s, n, v, h, l)
same_five a b c d e = cc

pub each_of_five : {X Y Z W Q : Type 0} {x r s : X} {y m n : Y} {z u v : Z} {w g h : W} {t k l : Q} → (r ≡ x) × (m ≡ y) × (u ≡ z) × (g ≡ w) × (k ≡ t)
    → (s ≡ x) × (n ≡ y) × (v ≡ z) × (h ≡ w) × (l ≡ t) → ◌≡◌ {A = X × Y × Z × W × Q} (r, m, u, g, k) (s, n, v, h, l)
each_of_five p q = same_five (p.0 ∙ sym q.0) (p.1 ∙ sym q.1) (p.2 ∙ sym q.2) (p.3 ∙ sym q.3) (p.4 ∙ sym q.4)

module _ {M : Type 1} (𝓤 : Ura M) where
  -- Of any two ends of a call that meet the contract c, with the answers r and s and the parameters d and e: `seen` of both is the same.
  abbrev pub OneEnd : (T : Ended) → Clauses 𝓤 T → (X : Type 0)
      → ((κs : Lfts T.signature.lifetimes) → Res T.signature κs → AtExit T κs → X) → Type 1
  OneEnd T c X seen =
      (κs : Lfts T.signature.lifetimes) (a : Args T.signature κs) (g : (c κs a).ghost) (r s : Res T.signature κs) (d e : AtExit T κs)
      → ent 𝓤 (conj 𝓤 ((c κs a).ensures g r d) ((c κs a).ensures g s e)) (fact 𝓤 (seen κs r d ≡ seen κs s e))

  -- The same of the answer alone, for a function that was lent nothing to change.
  abbrev pub OneAnswer : (T : Ended) → Clauses 𝓤 T → Type 1
  OneAnswer T c =
      (κs : Lfts T.signature.lifetimes) (a : Args T.signature κs) (g : (c κs a).ghost) (r s : Res T.signature κs) (d e : AtExit T κs)
      → ent 𝓤 (conj 𝓤 ((c κs a).ensures g r d) ((c κs a).ensures g s e)) (fact 𝓤 (r ≡ s))

  -- What follows from two facts follows from them as parts of a contract.
  pub both : (P Q R : Type 0) → (P → Q → R) → ent 𝓤 (conj 𝓤 (fact 𝓤 P) (fact 𝓤 Q)) (fact 𝓤 R)
  both P Q R f =
      let l = fact 𝓤 P in
      let r = fact 𝓤 Q in
      fact_use 𝓤 P (conj_l 𝓤 l r) (λ p. fact_use 𝓤 Q (conj_r 𝓤 l r) (λ q. fact_i 𝓤 R (conj 𝓤 l r) (f p q)))

  pub one : {X : Type 0} (x y z : X) → ent 𝓤 (conj 𝓤 (fact 𝓤 (x ≡ z)) (fact 𝓤 (y ≡ z))) (fact 𝓤 (x ≡ y))
  one x y z = both (x ≡ z) (y ≡ z) (x ≡ y) (λ p q. p ∙ sym q)
