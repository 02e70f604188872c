-- A step that failed leaves the work failed (proofs/Ends).
use Rattle.programs_salvage.proofs.Ends.{still}
use Rattle.programs_salvage.proofs.Job.made_safe.Goals as goal

pub returns : goal.returns
returns g c = still _ _ _ c.checked.ensures c.requires
