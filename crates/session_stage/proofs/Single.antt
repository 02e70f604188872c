-- No second answer of session_stage's public functions: of any course and line, only one answer meets the contract as the check states it. (The contracts
-- say it of every state of the machine. The answer is a note, which has none, so any one of them tells.) Rules out: a contract that leaves the next stage,
-- or what is printed, open. Leaves: which answer it is (specs/Stage). (The law: crate one_answer, proofs/Law.) Assumes nothing.
use mathlib.Core.Path.{◌≡◌, ap, sym, ◌∙◌}
use seplogic.Ra.Ura.{Ura}
use base.Logic.{SProp}
use prog.Memory.{Memory}
use prog.Routine.{Routine}
use types.Logic.{Logic}
use contract.Monad.{Fun}
use Rattle.one_answer.proofs.Law.{OneAnswer, both}
use Rattle.rules.specs.Machine.{fresh}
use Rattle.kernel.specs.declared.Kernel.{Kernel}
use Rattle.kernel.specs.View.{encode}
use Rattle.session_stage.specs.declared.Note.{Note}
use Rattle.session_stage.specs.Stage.{Moved, as_moved}
use Rattle.session_stage.specs.contracts.not_moved
use Rattle.session_stage.specs.contracts.opened
use Rattle.session_stage.specs.contracts.set_up
use Rattle.session_stage.specs.contracts.end

-- A note without the state.
note_of : Moved → Note
note_of h =
    record {
      course = record { stage = h.run.stage; n = h.run.n; seed = h.run.seed; profile = h.run.profile; left = h.run.left };
      shown = h.shown;
      row = h.row;
    }

same_note : {x : Kernel → Moved} {r s : Note} → ((k : Kernel) → as_moved k r ≡ x k) → ((k : Kernel) → as_moved k s ≡ x k) → r ≡ s
unfolding note_of
same_note p q = ap note_of (p (encode fresh) ∙ sym (q (encode fresh)))

module _ {M : Type 1} {𝓤 : Ura M} (𝓛 : Logic 𝓤) (mem : Memory → SProp 𝓤) (run : Routine → Fun 𝓤) where
  pub not_moved_single : OneAnswer 𝓤 not_moved.ended (not_moved.clauses 𝓛 mem run)
  not_moved_single κs a g r s d e = both 𝓤 _ _ _ same_note

  pub opened_single : OneAnswer 𝓤 opened.ended (opened.clauses 𝓛 mem run)
  opened_single κs a g r s d e = both 𝓤 _ _ _ same_note

  pub set_up_single : OneAnswer 𝓤 set_up.ended (set_up.clauses 𝓛 mem run)
  set_up_single κs a g r s d e = both 𝓤 _ _ _ same_note

  pub end_single : OneAnswer 𝓤 end.ended (end.clauses 𝓛 mem run)
  end_single κs a g r s d e = both 𝓤 _ _ _ same_note
