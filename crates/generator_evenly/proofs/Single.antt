-- No second answer: of any state, seed and profile only one answer meets the contract as the check states it; and of tables that are lent only one state is
-- left behind. (The law: crate one_answer, proofs/Law.) Assumes nothing.
use seplogic.Ra.Ura.{Ura}
use base.Logic.{SProp}
use prog.Memory.{Memory}
use prog.Routine.{Routine}
use types.Logic.{Logic}
use contract.Monad.{Fun}
use Rattle.one_answer.proofs.Law.{OneAnswer, OneEnd, one, both, each_of_two}
use Rattle.kernel.specs.declared.Kernel.{Kernel}
use Rattle.kernel.specs.Step.{tables}
use Rattle.generator_evenly.specs.declared.Carried.{Carried}
use Rattle.generator_evenly.specs.contracts.draw
use Rattle.generator_evenly.specs.contracts.draw_and_step as draw-and-step

module _ {M : Type 1} {𝓤 : Ura M} (𝓛 : Logic 𝓤) (mem : Memory → SProp 𝓤) (run : Routine → Fun 𝓤) where
  pub draw_single : OneAnswer 𝓤 draw.ended (draw.clauses 𝓛 mem run)
  draw_single κs a g r s d e = one 𝓤 _ _ _

  pub draw_and_step_single : OneEnd 𝓤 draw-and-step.ended (draw-and-step.clauses 𝓛 mem run) (Kernel × Carried)
      (λ κs r e. (
        tables e.0.now e.1.0.now e.1.1.0.now e.1.1.1.0.now e.1.1.1.1.0.now
            e.1.1.1.1.1.0.now e.1.1.1.1.1.1.0.now e.1.1.1.1.1.1.1.0.now
            e.1.1.1.1.1.1.1.1.0.now e.1.1.1.1.1.1.1.1.1.0.now,
        r,
      ))
  draw_and_step_single κs a g r s d e = both 𝓤 _ _ _ each_of_two
