-- No second answer of the salvage's public functions: of any tape, piece, salvage and buffers, only one answer meets the contract as the check states it, and
-- only one contents of each lent buffer is left behind. Rules out: a contract that leaves a refusal, a count, a place or a byte of a buffer open. Leaves: which
-- answer it is (salvage_marks/specs). (The law: crate one_answer, proofs/Law.) Assumes nothing.
use Prim.Native.Nat.{ℕ}
use mathlib.Core.List.{List}
use seplogic.Ra.Ura.{Ura}
use base.Logic.{SProp}
use prog.Memory.{Memory}
use prog.Routine.{Routine}
use types.Logic.{Logic}
use contract.Monad.{Fun}
use Rattle.one_answer.proofs.Law.{OneAnswer, OneEnd, one, both, each_of_two, each_of_three}
use Rattle.std.specs.Prelude.{Result}
use Rattle.rules.specs.declared.Refusal.{Refusal}
use Rattle.salvage_marks.specs.declared.Fed.{Fed}
use Rattle.salvage_marks.specs.declared.Salvaged.{Salvaged}
use Rattle.salvaging.specs.contracts.at_first
use Rattle.salvaging.specs.contracts.feed
use Rattle.salvaging.specs.contracts.move_down
use Rattle.salvaging.specs.contracts.last_stretch
use Rattle.salvaging.specs.contracts.salvage

module _ {M : Type 1} {𝓤 : Ura M} (𝓛 : Logic 𝓤) (mem : Memory → SProp 𝓤) (run : Routine → Fun 𝓤) where
  pub at_first_single : OneAnswer 𝓤 at_first.ended (at_first.clauses 𝓛 mem run)
  at_first_single κs a g r s d e = one 𝓤 _ _ _

  -- the answer and both buffers
  pub feed_single : OneEnd 𝓤 feed.ended (feed.clauses 𝓛 mem run) (Result Fed Refusal × List ℕ × List ℕ) (λ κs r e. (r, e.1.1.0.now, e.1.1.1.0.now))
  feed_single κs a g r s d e = both 𝓤 _ _ _ each_of_three

  -- the count and the buffer
  pub move_down_single : OneEnd 𝓤 move_down.ended (move_down.clauses 𝓛 mem run) (ℕ × List ℕ) (λ κs r e. (r, e.0.now))
  move_down_single κs a g r s d e = both 𝓤 _ _ _ each_of_two

  pub last_stretch_single : OneAnswer 𝓤 last_stretch.ended (last_stretch.clauses 𝓛 mem run)
  last_stretch_single κs a g r s d e = one 𝓤 _ _ _

  -- the answer and both buffers
  pub salvage_single : OneEnd 𝓤 salvage.ended (salvage.clauses 𝓛 mem run) (Result Salvaged Refusal × List ℕ × List ℕ) (λ κs r e. (r, e.1.0.now, e.1.1.0.now))
  salvage_single κs a g r s d e = both 𝓤 _ _ _ each_of_three
