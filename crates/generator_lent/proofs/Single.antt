-- No second answer: of any seed only one answer meets the contract as the check states it, and of a generator that is lent only one is left behind.
-- (The law: crate one_answer, proofs/Law.) Assumes nothing.
use Prim.Native.Nat.{ℕ}
use mathlib.Core.Path.{◌≡◌, ap, sym, ◌∙◌}
use seplogic.Ra.Ura.{Ura}
use base.Logic.{SProp}
use prog.Memory.{Memory}
use prog.Routine.{Routine}
use types.Logic.{Logic}
use contract.Monad.{Fun}
use Rattle.one_answer.proofs.Law.{OneAnswer, OneEnd, same_pair, one, both}
use Rattle.generator_lent.specs.declared.Generator.{Generator}
use Rattle.generator_lent.specs.contracts.xorshift
use Rattle.generator_lent.specs.contracts.advance
use Rattle.generator_lent.specs.contracts.three_draws
use Rattle.generator_lent.specs.contracts.choice_from
use Rattle.generator_lent.specs.contracts.choice_if_needed
use Rattle.generator_lent.specs.contracts.choose
use Rattle.generator_lent.specs.declared.Choice.{Choice}

-- an answer and a lent generator, which is its seed
same_end : {X : Type 0} {x r s : X} {n : ℕ} {a b : Generator} → (r ≡ x) × (a.seed ≡ n) → (s ≡ x) × (b.seed ≡ n)
    → ◌≡◌ {A = X × Generator} (r, a) (s, b)
same_end p q = same_pair (p.0 ∙ sym q.0) (ap (λ (m : ℕ). record { seed = m }) (p.1 ∙ sym q.1))

module _ {M : Type 1} {𝓤 : Ura M} (𝓛 : Logic 𝓤) (mem : Memory → SProp 𝓤) (run : Routine → Fun 𝓤) where
  pub xorshift_single : OneAnswer 𝓤 xorshift.ended (xorshift.clauses 𝓛 mem run)
  xorshift_single κs a g r s d e = one 𝓤 _ _ _

  pub advance_single : OneEnd 𝓤 advance.ended (advance.clauses 𝓛 mem run) (ℕ × Generator) (λ κs r e. (r, e.0.now))
  advance_single κs a g r s d e = both 𝓤 _ _ _ same_end

  pub three_draws_single : OneAnswer 𝓤 three_draws.ended (three_draws.clauses 𝓛 mem run)
  three_draws_single κs a g r s d e = one 𝓤 _ _ _

  pub choice_from_single : OneAnswer 𝓤 choice_from.ended (choice_from.clauses 𝓛 mem run)
  choice_from_single κs a g r s d e = one 𝓤 _ _ _

  pub choice_if_needed_single : OneAnswer 𝓤 choice_if_needed.ended (choice_if_needed.clauses 𝓛 mem run)
  choice_if_needed_single κs a g r s d e = one 𝓤 _ _ _

  pub choose_single : OneEnd 𝓤 choose.ended (choose.clauses 𝓛 mem run) (Choice × Generator) (λ κs r e. (r, e.0.now))
  choose_single κs a g r s d e = both 𝓤 _ _ _ same_end
