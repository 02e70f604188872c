-- No second answer of the generator's public functions: of any state, seed and profile, only one answer meets the contract as the check states it; and of
-- tables that are lent only one state is left behind. Rules out: a contract that leaves the drawn command, the code or the seed open, for a refused draw as
-- for an accepted one.
-- Leaves: which answer it is (specs/). (The law: crate one_answer, proofs/Law.) Assumes nothing.
use seplogic.Ra.Ura.{Ura}
use base.Logic.{SProp}
use prog.Memory.{Memory}
use prog.Routine.{Routine}
use types.Logic.{Logic}
use contract.Monad.{Fun}
use Rattle.one_answer.proofs.Law.{OneAnswer, OneEnd, one, both, each_of_two}
use Rattle.kernel.specs.declared.Kernel.{Kernel}
use Rattle.kernel.specs.Step.{tables}
use Rattle.generator.specs.declared.Carried.{Carried}
use Rattle.generator.specs.contracts.draw
use Rattle.generator.specs.contracts.in_place.code_of as code_of_lem
use Rattle.generator.specs.contracts.in_place.draw as in-place-draw
use Rattle.generator.specs.contracts.in_place.unmoved as unmoved
use Rattle.generator.specs.contracts.in_place.draw_and_step as draw-and-step

module _ {M : Type 1} {𝓤 : Ura M} (𝓛 : Logic 𝓤) (mem : Memory → SProp 𝓤) (run : Routine → Fun 𝓤) where
  pub draw_single : OneAnswer 𝓤 draw.ended (draw.clauses 𝓛 mem run)
  draw_single κs a g r s d e = one 𝓤 _ _ _

  pub code_of_single : OneAnswer 𝓤 code_of_lem.ended (code_of_lem.clauses 𝓛 mem run)
  code_of_single κs a g r s d e = one 𝓤 _ _ _

  pub unmoved_single : OneAnswer 𝓤 unmoved.ended (unmoved.clauses 𝓛 mem run)
  unmoved_single κs a g r s d e = one 𝓤 _ _ _

  pub in_place_draw_single : OneAnswer 𝓤 in-place-draw.ended (in-place-draw.clauses 𝓛 mem run)
  in_place_draw_single κs a g r s d e = one 𝓤 _ _ _

  pub draw_and_step_single : OneEnd 𝓤 draw-and-step.ended (draw-and-step.clauses 𝓛 mem run) (Kernel × Carried)
      (λ κs r e. (
        tables e.0.now e.1.0.now e.1.1.0.now e.1.1.1.0.now e.1.1.1.1.0.now
            e.1.1.1.1.1.0.now e.1.1.1.1.1.1.0.now e.1.1.1.1.1.1.1.0.now
            e.1.1.1.1.1.1.1.1.0.now e.1.1.1.1.1.1.1.1.1.0.now,
        r,
      ))
  draw_and_step_single κs a g r s d e = both 𝓤 _ _ _ each_of_two
