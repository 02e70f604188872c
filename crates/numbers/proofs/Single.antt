-- No second answer of the functions on numbers: of any arguments, only one answer meets each contract as the check states it (the law and what it says: crate
-- one_answer, proofs/Law). Assumes nothing.
use mathlib.Core.Path.{sym, ◌∙◌}
use seplogic.Ra.Ura.{Ura}
use base.Logic.{SProp}
use prog.Memory.{Memory}
use prog.Routine.{Routine}
use types.Logic.{Logic}
use contract.Monad.{Fun}
use Rattle.one_answer.proofs.Law.{OneAnswer, one, both}
use Rattle.numbers.specs.contracts.choose
use Rattle.numbers.specs.contracts.wide32
use Rattle.numbers.specs.contracts.wide
use Rattle.numbers.specs.contracts.wider

module _ {M : Type 1} {𝓤 : Ura M} (𝓛 : Logic 𝓤) (mem : Memory → SProp 𝓤) (run : Routine → Fun 𝓤) where
  pub choose_single : OneAnswer 𝓤 choose.ended (choose.clauses 𝓛 mem run)
  choose_single κs a g r s d e = one 𝓤 _ _ _

  pub wide32_single : OneAnswer 𝓤 wide32.ended (wide32.clauses 𝓛 mem run)
  wide32_single κs a g r s d e = both 𝓤 _ _ _ (λ p q. p.0 ∙ sym q.0)

  pub wide_single : OneAnswer 𝓤 wide.ended (wide.clauses 𝓛 mem run)
  wide_single κs a g r s d e = both 𝓤 _ _ _ (λ p q. p.0 ∙ sym q.0)

  pub wider_single : OneAnswer 𝓤 wider.ended (wider.clauses 𝓛 mem run)
  wider_single κs a g r s d e = both 𝓤 _ _ _ (λ p q. p.0 ∙ sym q.0)
