-- No second answer of what each call does: of any bytes and any numbers, only one answer meets the contract as the check states it, and only one contents of the
-- image, the seed and the value that were lent. Rules out: a contract that leaves the answer or a byte of what was lent open, for a refusal as for an
-- accepted call. Leaves: which answer it is (specs/Calls). (The law: crate one_answer, proofs/Law.) Assumes nothing.
use Prim.Native.Nat.{ℕ}
use mathlib.Core.List.{List}
use seplogic.Ra.Ura.{Ura}
use base.Logic.{SProp}
use prog.Memory.{Memory}
use prog.Routine.{Routine}
use types.Logic.{Logic}
use contract.Monad.{Fun}
use Rattle.one_answer.proofs.Law.{OneAnswer, OneEnd, one, both, each_of_two, each_of_three, each_of_four}
use Rattle.image_work.specs.contracts.step
use Rattle.image_work.specs.contracts.fresh
use Rattle.image_work.specs.contracts.wakes_left
use Rattle.image_work.specs.contracts.draw
use Rattle.image_work.specs.contracts.draw_even
use Rattle.image_work.specs.contracts.draw_step

module _ {M : Type 1} {𝓤 : Ura M} (𝓛 : Logic 𝓤) (mem : Memory → SProp 𝓤) (run : Routine → Fun 𝓤) where
  pub step_single : OneEnd 𝓤 step.ended (step.clauses 𝓛 mem run) (ℕ × List ℕ) (λ κs r e. (r, e.0.now))
  step_single κs a g r s d e = both 𝓤 _ _ _ each_of_two

  pub fresh_single : OneEnd 𝓤 fresh.ended (fresh.clauses 𝓛 mem run) (ℕ × List ℕ) (λ κs r e. (r, e.0.now))
  fresh_single κs a g r s d e = both 𝓤 _ _ _ each_of_two

  pub wakes_left_single : OneAnswer 𝓤 wakes_left.ended (wakes_left.clauses 𝓛 mem run)
  wakes_left_single κs a g r s d e = one 𝓤 _ _ _

  -- the seed and the value
  pub draw_single : OneEnd 𝓤 draw.ended (draw.clauses 𝓛 mem run) (ℕ × ℕ × ℕ) (λ κs r e. (r, e.1.0.now, e.1.1.1.1.0.now))
  draw_single κs a g r s d e = both 𝓤 _ _ _ each_of_three

  pub draw_even_single : OneEnd 𝓤 draw_even.ended (draw_even.clauses 𝓛 mem run) (ℕ × ℕ × ℕ)
      (λ κs r e. (r, e.1.0.now, e.1.1.1.1.0.now))
  draw_even_single κs a g r s d e = both 𝓤 _ _ _ each_of_three

  -- the image, the seed and the value
  pub draw_step_single : OneEnd 𝓤 draw_step.ended (draw_step.clauses 𝓛 mem run) (ℕ × List ℕ × ℕ × ℕ)
      (λ κs r e. (r, e.0.now, e.1.0.now, e.1.1.1.1.0.now))
  draw_step_single κs a g r s d e = both 𝓤 _ _ _ each_of_four
