-- No second answer of what is timed: of any tape, piece and buffers, only one answer meets the contract as the check states it, and only one contents of each
-- lent buffer is left behind. (The law: crate one_answer, proofs/Law.) Assumes nothing.
use Prim.Native.Nat.{ℕ}
use mathlib.Core.List.{List}
use seplogic.Ra.Ura.{Ura}
use base.Logic.{SProp}
use prog.Memory.{Memory}
use prog.Routine.{Routine}
use types.Logic.{Logic}
use contract.Monad.{Fun}
use Rattle.one_answer.proofs.Law.{OneEnd, both, each_of_three, each_of_four}
use Rattle.salvage_bench.specs.contracts.salvage_bench_whole
use Rattle.salvage_bench.specs.contracts.salvage_bench_piece

module _ {M : Type 1} {𝓤 : Ura M} (𝓛 : Logic 𝓤) (mem : Memory → SProp 𝓤) (run : Routine → Fun 𝓤) where
  -- the code and both buffers
  pub salvage_bench_whole_single : OneEnd 𝓤 salvage_bench_whole.ended (salvage_bench_whole.clauses 𝓛 mem run) (ℕ × List ℕ × List ℕ)
      (λ κs r e. (r, e.1.0.now, e.1.1.0.now))
  salvage_bench_whole_single κs a g r s d e = both 𝓤 _ _ _ each_of_three

  -- the code and all three
  pub salvage_bench_piece_single : OneEnd 𝓤 salvage_bench_piece.ended (salvage_bench_piece.clauses 𝓛 mem run) (ℕ × List ℕ × List ℕ × List ℕ)
      (λ κs r e. (r, e.1.1.1.0.now, e.1.1.1.1.0.now, e.1.1.1.1.1.0.now))
  salvage_bench_piece_single κs a g r s d e = both 𝓤 _ _ _ each_of_four
