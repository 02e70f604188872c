-- No second answer of what bench/tape calls: of any tape and buffer, only one sum meets the contract of the pass over a tape as the check states it, and only
-- one final contents of the buffer that of the filling. (The law: crate one_answer, proofs/Law.) Assumes nothing.
use Prim.Native.Nat.{ℕ}
use mathlib.Core.List.{List}
use seplogic.Ra.Ura.{Ura}
use base.Logic.{SProp}
use prog.Memory.{Memory}
use prog.Routine.{Routine}
use types.Logic.{Logic}
use contract.Monad.{Fun}
use Rattle.one_answer.proofs.Law.{OneAnswer, OneEnd, one}
use Rattle.tape_bench.specs.contracts.tape_bench_read
use Rattle.tape_bench.specs.contracts.tape_bench_write

module _ {M : Type 1} {𝓤 : Ura M} (𝓛 : Logic 𝓤) (mem : Memory → SProp 𝓤) (run : Routine → Fun 𝓤) where
  pub tape_bench_read_single : OneAnswer 𝓤 tape_bench_read.ended (tape_bench_read.clauses 𝓛 mem run)
  tape_bench_read_single κs a g r s d e = one 𝓤 _ _ _

  -- the buffer
  pub tape_bench_write_single : OneEnd 𝓤 tape_bench_write.ended (tape_bench_write.clauses 𝓛 mem run) (List ℕ) (λ κs r e. e.0.now)
  tape_bench_write_single κs a g r s d e = one 𝓤 _ _ _
